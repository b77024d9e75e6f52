-- The moves of the files that a task reads, as it is placed.
use lib.ListN.{length}
use Prim.Native.Nat.{ℕ, suc, ◌-◌, ◌≤◌, ◌<◌}
use mathlib.Core.Bool.{Bool, true, false, cond}
use mathlib.Core.Path.{◌≡◌, refl, sym, ap, ◌∙◌}
use native.Mathlib.Omega.{arith}
use native.Mathlib.Decide.{ℕ_discrete}
use lib.Dec.{ltb}
use borrow.Author.Tests.{lt-ltb}
use Rattle.rules.specs.Count.{list_below}
use Rattle.rules.specs.Limits.{max_tasks, max_files}
use Rattle.rules.specs.Model.{Instance, Schedule, Colour, run_at, move_at, file_at, file_count, move_time_at}
use Rattle.rules.specs.Scheduling.{reads, crossing, move_with}
use Rattle.rules.proofs.Tests.{by_order}
use Rattle.rules.proofs.CountLaws.{list-cong}
use Rattle.model.specs.declared.layout.Schedule.{Schedule as StoredSchedule}
use Rattle.model.specs.declared.job.Job.{Job}
use Rattle.model.specs.Layout.{Entries, entries_of, run_from, WholeSchedule, with_move_at}
use Rattle.model.specs.Jobs.{instance_in, schedule_by, schedule_of}
use Rattle.model.proofs.JobLaws.{files-in, file-in, run-in, move-in}
use Rattle.links.specs.Chains.{NextOf}
use Rattle.model.proofs.WriteLaws.{move-here, move-other}

-- a file that the task does not read does not cross
pub not-read : (I : Instance) (P : Schedule) (i : ℕ) (c : Colour) (k : ℕ) → reads I i k ≡ false → crossing I P i c k ≡ false
not-read I P i c k e = rw e

module _ (j : Job) (L : Entries) {k : ℕ} (h : k < (length j.files.now)) where
  abbrev I : Instance
  I = instance_in j

  abbrev P : Schedule
  P = schedule_by j L

  -- a file that crosses or not, whose move then takes so long
  chosen-move : (y : Bool) (x start d u t : ℕ) → 1 ≤ x → t ≡ cond y x 0 → d ≡ start - t → cond (ltb 0 t) d u ≡ cond y (start - x) u
  chosen-move true x start d u t l e g = rw (g, e, lt-ltb 0 x (omega arith))
  chosen-move false x start d u t l e g = rw (g, e)

  pub move-from : (i : ℕ) (c : Colour) (start : ℕ) {t d u : ℕ} → t ≡ cond (crossing I P i c k) (move_time_at I k) 0 → d ≡ start - t → u ≡ L.move_start k
      → cond (ltb 0 t) d u ≡ move_with I P i c start k
  move-from i c start {t} {d} {u} p e r =
      chosen-move (crossing I P i c k) (move_time_at I k) start d u t (omega (arith, (j.in_bounds.move_time k h).least, ap (λ f. f.move_time) (file-in j k))) p e
      ∙ ap (λ v. cond (crossing I P i c k) (start - move_time_at I k) v) (r ∙ sym (move-in j L k h))

-- ---- the loop over the files

module _ (j : Job) (xs : StoredSchedule) (i : ℕ) (c : Colour) (start : ℕ) where
  abbrev inst : Instance
  inst = instance_in j

  -- when a file moves, by the schedule xs
  abbrev pub move_by : ℕ → ℕ
  move_by = move_with inst (schedule_of j xs) i c start

  -- ys is the schedule xs with the move starts of the first k files set
  pub record MovesTo (ys : StoredSchedule) (k : ℕ) : Type 0 where
    pub size : WholeSchedule ys
    pub runs : (i : ℕ) → i < max_tasks → run_from (entries_of ys) i ≡ run_from (entries_of xs) i
    pub done : (n : ℕ) → n < k → (entries_of ys).move_start n ≡ move_by n
    pub rest : (n : ℕ) → k ≤ n → (entries_of ys).move_start n ≡ (entries_of xs).move_start n

  pub moves-none : WholeSchedule xs → MovesTo xs 0
  moves-none e = record {
    size = e;
    runs = λ t l. refl;
    done = λ q l. absurd (omega arith);
    rest = λ q l. refl;
  }

  module _ {ys : StoredSchedule} {k : ℕ} (h : k < (length j.files.now)) (m : MovesTo ys k) where
    -- the runs are those of xs, so the same files cross
    same-run : (t : ℕ) → t < length j.tasks.now → run_at (schedule_of j ys) t ≡ run_at (schedule_of j xs) t
    same-run t l = run-in j (entries_of ys) t l ∙ m.runs t (omega (arith, j.in_bounds.tasks)) ∙ sym (run-in j (entries_of xs) t l)

    same_move : move_with inst (schedule_of j ys) i c start k ≡ move_by k
    same_move =
        let from : ℕ = (file_at inst k).maker in
        let r : run_at (schedule_of j ys) from ≡ run_at (schedule_of j xs) from = same-run from (omega (arith, ap (λ f. f.maker) (file-in j k), j.in_bounds.maker k h)) in
        let u : move_at (schedule_of j ys) k ≡ move_at (schedule_of j xs) k =
        move-in j (entries_of ys) k h ∙ m.rest k (omega arith) ∙ sym (move-in j (entries_of xs) k h) in
        rw (r, u)

    pub moves-turn : {t : ℕ} {zs : StoredSchedule} → t ≡ move_with inst (schedule_of j ys) i c start k → zs ≡ with_move_at ys k t → WholeSchedule zs
        → MovesTo zs (suc k)
    moves-turn {t} e w long =
        let l : k < max_files = omega (arith, j.in_bounds.files) in
        rw w
        (record {
          size = rw w at long;
          runs = m.runs;
          done = λ q n. elim (ℕ_discrete q k) [
            | yes d ↦ rw d (move-here ys (omega (arith, m.size.1, l)) t ∙ e ∙ same_move)
            | no d ↦ move-other ys (omega (arith, m.size.1, l)) t q d ∙ m.done q (omega arith)
          ];
          rest = λ q n. move-other ys (omega (arith, m.size.1, l)) t q (omega arith) ∙ m.rest q (omega arith);
        })

  -- past files that the task does not read
  pub moves-skip : {ys : StoredSchedule} {k r : ℕ} → NextOf (length j.files.now) (reads inst i) k r → MovesTo ys k → MovesTo ys r
  moves-skip {k = k} next m = record {
    size = m.size;
    runs = m.runs;
    done = λ q n. by_order q k
        (λ l. m.done q l)
        (λ l. m.rest q l ∙ sym (move-in j (entries_of xs) q (omega (arith, next.within, files-in j)))
        ∙ rw (not-read inst (schedule_of j xs) i c q (next.passed q l n)));
    rest = λ q n. m.rest q (omega (arith, next.from));
  }

  pub moves-total : {ys : StoredSchedule} {n : ℕ} → n ≡ (length j.files.now) → MovesTo ys n → list_below (length j.files.now) (entries_of ys).move_start ≡ list_below (file_count inst) move_by
  moves-total e m = list-cong (length j.files.now) _ _ (λ k l. m.done k (omega arith)) ∙ ap (λ n. list_below n move_by) (sym (files-in j))
