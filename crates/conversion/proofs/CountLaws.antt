-- How many tasks have W, and how many of the first i.
use Prim.Native.Nat.{ℕ, zero, suc, ◌+◌, ◌<◌, ◌≤◌}
use mathlib.Core.Bool.{Bool, true}
use mathlib.Core.Path.{◌≡◌, sym, ap, ◌∙◌}
use native.Mathlib.Omega.{arith}
use native.Mathlib.Numerals.{add-one}
use lib.Dec.{ltb}
use lib.ListN.{length}
use borrow.Author.Tests.{lt-ltb, le-ltb}
use Rattle.rules.specs.Count.{count_where}
use Rattle.rules.specs.Model.{Instance, task_count, work_at}
use Rattle.rules.specs.Conversion.{has_work, added_count, served_at}
use Rattle.rules.proofs.WhereLaws.{length-where, count_yes, count_no, count-mono, where-place}
use Rattle.std.specs.List.{filter, count_by}
use Rattle.std.proofs.lemmas.List.Sums.{length-filter, count_by_more_yes, count_by_more_no}
use lib.Seq.{take_all}
use mathlib.Core.List.{List}
use lib.ListN.{take}
use Rattle.rules.specs.declared.Board.{Board}
use Rattle.rules.proofs.Tests.{split}
use Rattle.model.specs.declared.layout.Task.{Task}
use Rattle.model.specs.declared.layout.File.{File}
use Rattle.model.specs.Layout.{instance_of, stored_task}
use Rattle.model.proofs.LayoutLaws.{task-count, task-at}
use Rattle.model.proofs.StepLaws.{sum-none}
use Rattle.model.specs.declared.job.Job.{Job}
use Rattle.model.specs.Jobs.{instance_in}
use Rattle.model.proofs.JobLaws.{tasks-in}

module _ (j : Job) where
  abbrev I : Instance
  I = instance_in j

  -- of the first i tasks
  abbrev pub count_to : ℕ → ℕ
  count_to i = count_where i (has_work I)

  count-total : added_count I ≡ count_to (length j.tasks.now)
  count-total = length-where (has_work I) (task_count I) ∙ ap count_to (tasks-in j)

  -- at the last task it is document 02's m
  pub count-all : {i k : ℕ} → i ≡ length j.tasks.now → k ≡ count_to i → k ≡ added_count I
  count-all e q = q ∙ ap count_to e ∙ sym count-total

  module _ {i : ℕ} (h : i < length j.tasks.now) {w : ℕ} (e : w ≡ work_at I i) where
    work-read : ltb 0 w ≡ has_work I i
    work-read = ap (λ x. ltb 0 x) e

    -- a task without W is not counted
    pub count-without : w ≡ 0 → count_to i ≡ count_to (i + 1)
    count-without z = rw (add-one i) (sym (count_no (has_work I) i (sym work-read ∙ le-ltb 0 w (omega arith))))

    -- a task with W is: the one that the next added task serves
    module _ (z : w ≡ 0 → ⊥) where
      served : has_work I i ≡ true
      served = sym work-read ∙ lt-ltb 0 w (omega arith)

      pub count-with : count_to i + 1 ≡ count_to (i + 1)
      count-with = rw (add-one i, add-one (count_to i)) (sym (count_yes (has_work I) i served))

      pub count_less : count_to i < added_count I
      count_less = omega (arith, count-with, count-mono (has_work I) (i + 1) (length j.tasks.now) (omega arith), count-total)

      pub served-next : served_at I (count_to i) ≡ i
      served-next = where-place (has_work I) (task_count I) i (omega (arith, tasks-in j)) served

-- ---- the tasks that have W, as a list gives them

abbrev pub has : Task → Bool
has t = ltb 0 t.work

module _ (b : Board) (ts : List Task) (fs : List File) where
  abbrev K : Instance
  K = instance_of b ts fs

  tested : (i : ℕ) → has_work K i ≡ has (stored_task ts i)
  tested i = ap (λ a. ltb 0 a.work) (task-at b ts fs i)

  count-front : (i : ℕ) → i ≤ length ts → count_by has (take i ts) ≡ count_where i (has_work K)
  count-front zero h = sym (sum-none _)
  count-front (suc i) h =
      let c = count-front i (omega arith) in
      split (has (stored_task ts i))
      (λ y.
      let one : count_where (i + 1) (has_work K) ≡ count_where i (has_work K) + 1 = rw (add-one i, add-one (count_where i (has_work K))) (count_yes (has_work K) i (tested i ∙ y)) in
      rw (← add-one i) (omega (arith, count_by_more_yes has ts i (record { on_blue = 0; on_red = 0; work = 0 }) (omega arith) y, c, one)))
      (λ n.
      let same : count_where (i + 1) (has_work K) ≡ count_where i (has_work K) = rw (add-one i) (count_no (has_work K) i (tested i ∙ n)) in
      rw (← add-one i) (omega (arith, count_by_more_no has ts i (record { on_blue = 0; on_red = 0; work = 0 }) (omega arith) n, c, same)))

  pub filter-added : length (filter has ts) ≡ added_count K
  filter-added =
      length-filter has ts
      ∙ ap (count_by has) (sym (take_all (length ts) ts (omega arith)))
      ∙ count-front (length ts) (omega arith)
      ∙ sym (length-where (has_work K) (task_count K) ∙ ap (λ n. count_where n (has_work K)) (task-count b ts fs))
