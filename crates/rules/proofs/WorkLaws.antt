-- Working memory: with an unplaced task's W it is at most all W, placing a task adds at most its W, and a job without W has none: files_alone_law.
use Prim.Native.Nat.{ℕ, ◌+◌, ◌≤◌}
use mathlib.Core.Bool.{Bool, true, false, cond, ◌||◌}
use mathlib.Core.Path.{◌≡◌, refl, ap}
use mathlib.Core.Logic.{◌≢◌}
use native.Mathlib.Omega.{arith}
use native.Mathlib.Decide.{ℕ_discrete}
use lib.Dec.{eqb}
use lib.ListN.{get_or-eq_default}
use borrow.Author.Tests.{eqb-true, eq-eqb, ne_eqb}
use Rattle.rules.specs.Model.{Colour, blue, red, Instance, task_count, work_at, all_work, is_placed, Schedule, run_at}
use Rattle.rules.specs.Residency.{is_work_held, work_held, held, work_settles_at, work_horizon, horizon}
use Rattle.rules.specs.Scheduling.{crossing_size, output_size, memory_start}
use Rattle.rules.specs.Simulation.{run_turns}
use Rattle.rules.specs.WorkingMemory.{FilesAloneLaw}
use Rattle.rules.proofs.Tests.{split, by_order, clash, cond-under}
use Rattle.rules.proofs.CountLaws.{sum_mono, sum-zero, sum_one, sum-changed, max-under, where-gain}
use Rattle.rules.proofs.HoldLaws.{work-unplaced, work-idle}

-- a task that does not exist has none
pub no-task : (I : Instance) (i : ℕ) → task_count I ≤ i → work_at I i ≡ 0
no-task I i l = ap (λ a. a.work) (get_or-eq_default I.tasks _ l)

module _ (I : Instance) (P : Schedule) (c : Colour) (t : ℕ) where
  abbrev working : ℕ → ℕ
  working j = cond (is_work_held I P c t j) (work_at I j) 0

  working-under : (j : ℕ) → working j ≤ work_at I j
  working-under j = cond-under (is_work_held I P c t j) (work_at I j) (work_at I j) (λ _. omega arith)

  -- with the W of a task not placed, what is held is at most all
  pub work-suffices : (i : ℕ) → is_placed (run_at P i) ≡ false → work_held I P c t + work_at I i ≤ all_work I
  unfolding work_held all_work
  work-suffices i u = by_order i (task_count I)
      (λ l. omega (
        arith,
        sum-changed (task_count I) working with-i i (work_at I i) l (λ j n. rw (ne_eqb j i n)) (rw (eq-eqb i i refl, work-unplaced I i (run_at P i) c u) (omega arith)),
        sum_mono (task_count I) with-i (work_at I) (λ j _. under j),
      ))
      (λ l. omega (arith, no-task I i l, sum_mono (task_count I) working (work_at I) (λ j _. working-under j)))
    where
      with-i : ℕ → ℕ
      with-i j = cond (eqb j i) (work_at I i) (working j)

      under : (j : ℕ) → with-i j ≤ work_at I j
      under j = split (eqb j i) (λ e. rw (e, eqb-true j i e) (omega arith)) (λ e. rw e (working-under j))

-- another run for task i alone adds at most g, if its W is at most g where it is then held
pub work-gain : (I : Instance) (P P' : Schedule) (i : ℕ) (c : Colour) (t g : ℕ) → ((j : ℕ) → j ≢ i → run_at P' j ≡ run_at P j)
    → (is_work_held I P' c t i ≡ true → work_at I i ≤ g) → work_held I P' c t ≤ work_held I P c t + g
unfolding work_held
work-gain I P P' i c t g other h = omega (
  arith,
  where-gain (task_count I) (is_work_held I P' c t) (is_work_held I P c t) (work_at I) (λ j. cond (eqb j i) g 0) (λ j l y n. elim (ℕ_discrete j i) [
    | yes e ↦ rw (eq-eqb j i e, e) (h (rw e at y))
    | no e ↦ clash (rw (other j e) at y) n
  ]),
  sum_one (task_count I) i g,
)

-- ---- without W

or-none : (a : Bool) → a || false ≡ a
or-none true = refl
or-none false = refl

pub files_alone_law : FilesAloneLaw
unfolding held horizon work_held work_horizon all_work memory_start
files_alone_law I free P c = record {
  total = λ t. omega (arith, sum-zero (task_count I) (λ j. cond (is_work_held I P c t j) (work_at I j) 0) (λ j _. rw (work-idle I j (run_at P j) c (free j))));
  settled = omega (arith, max-under (task_count I) (work_settles_at I P c) 0 (λ j _. rw (work-idle I j (run_at P j) c (free j)) (omega arith)));
  ample = omega (arith, sum-zero (task_count I) (work_at I) (λ j _. free j));
  starts = λ i. let e : crossing_size I P i c + output_size I i + work_at I i ≡ crossing_size I P i c + output_size I i = omega (arith, free i) in rw e;
  turns = λ t i.
      rw (work-idle I i (run_at P i) blue (free i), work-idle I i (run_at P i) red (free i)) (rw (or-none (run_turns I P t i), or-none (run_turns I P t i)));
}
