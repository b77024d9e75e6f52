-- The first overlap among the records of all tasks is the lowest task whose run overlaps another's.
use Prim.Native.Nat.{ℕ, ◌<◌}
use mathlib.Core.Bool.{false}
use mathlib.Core.List.{List}
use mathlib.Core.Logic.{◌≢◌}
use mathlib.Core.Path.{◌≡◌, ◌∙◌}
use native.Mathlib.Omega.{arith}
use native.Mathlib.Decide.{ℕ_discrete}
use lib.ListN.{get_or}
use borrow.Author.Tests.{eq-eqb, ne_eqb}
use Rattle.rules.specs.Count.{first_below}
use Rattle.rules.specs.Model.{Instance, task_count, Schedule}
use Rattle.rules.specs.Validity.{overlap, overlaps}
use Rattle.rules.proofs.CountLaws.{any_some, none_any, first-passed}
use Rattle.runs.specs.declared.Run.{Run}
use Rattle.runs.specs.First.{FirstOverlap}
use Rattle.runs.specs.Overlaps.{overlapping, no_run}
use Rattle.validator.specs.Records.{record_at, Records}

module _ (I : Instance) (P : Schedule) where
  pub overlap-self : (i j : ℕ) → i ≡ j → overlap I P i j ≡ false
  unfolding overlap
  overlap-self i j e = rw (eq-eqb i j e)

  pub overlap-records : (i j : ℕ) → i ≢ j → overlap I P i j ≡ overlapping (record_at I P i) (record_at I P j)
  unfolding overlap overlapping
  overlap-records i j ne = rw (ne_eqb i j ne)

  module _ (l : List Run) (records : Records I P (task_count I) l) where
    abbrev n : ℕ
    n = task_count I

    overlap-at : (i j : ℕ) → i < n → j < n → i ≢ j → overlap I P i j ≡ overlapping (get_or l i no_run) (get_or l j no_run)
    overlap-at i j li lj ne = rw (records i li, records j lj) (overlap-records i j ne)

    pub lowest-overlapping : (f : ℕ) → FirstOverlap l n f → f ≡ first_below n (overlaps I P)
    unfolding overlaps
    lowest-overlapping f F = first-passed n (overlaps I P) f F.within
        (λ m. let w = F.found m in any_some n (overlap I P f) w.0 w.1 (overlap-at f w.0 m w.1 w.2 ∙ w.3))
        (λ i m. none_any n (overlap I P i) (λ j k. elim (ℕ_discrete i j) [
          | yes e ↦ overlap-self i j e
          | no d ↦ overlap-at i j (omega (arith, F.within)) k d ∙ F.before i j m k d
        ]))
