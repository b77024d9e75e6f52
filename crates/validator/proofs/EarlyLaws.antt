-- The lowest reader of an early file is the lowest task that reads one.
use Prim.Native.Nat.{ℕ, ◌<◌}
use mathlib.Core.Bool.{Bool, true, ◌||◌}
use mathlib.Core.Path.{◌≡◌, ◌∙◌}
use native.Mathlib.Omega.{arith}
use lib.Dec.{eqb, ltb}
use borrow.Author.Tests.{eqb-true, eq-eqb}
use Rattle.rules.specs.Count.{first_below}
use Rattle.rules.specs.Model.{Instance, task_count, file_at, file_count, Schedule, made_at, start_at}
use Rattle.rules.specs.Validity.{early, early_for, reads_early}
use Rattle.rules.proofs.Tests.{and-true}
use Rattle.std.specs.Prelude.{Option, Some, None}
use Rattle.rules.proofs.ValidLaws.{early-moved, early-unmoved}
use Rattle.rules.proofs.CountLaws.{any_found, any_some, first-is}
use Rattle.model.specs.declared.residency.FileTimes.{FileTimes}
use Rattle.model.specs.declared.residency.Transfer.{Transfer}
use Rattle.model.specs.Holds.{TransferOf, TimesOf}
use Rattle.validator.specs.Early.{departs_before, arrival, too_early}
use Rattle.validator.specs.Least.{least_where}
use Rattle.validator.proofs.LeastLaws.{least-default, least-bound, least-reached}

abbrev pub reader_of : Instance → ℕ → ℕ
reader_of I k = (file_at I k).reader

-- whether a file is early, from its move if it has one
early-by : (I : Instance) (P : Schedule) (k : ℕ) (o : Option Transfer) → TransferOf I P k o
    → departs_before o (made_at I P k) || ltb (start_at P (file_at I k).reader) (arrival o (made_at I P k)) ≡ early I P k
early-by I P k (Some m) move = rw (early-moved I P k move.moves, move.departs, move.arrives)
early-by I P k None stays = rw (early-unmoved I P k stays)

-- whether a file is early, from its times
pub early_from : {I : Instance} {P : Schedule} {k : ℕ} {t : FileTimes} {r : Bool} → TimesOf I P k t → r ≡ too_early t → r ≡ early I P k
early_from {I} {P} {k} {t} times e = e ∙ rw (times.made, times.starts) (early-by I P k t.transfer times.transfer)

module _ (I : Instance) (P : Schedule) where
  reads-early : (k j : ℕ) → k < file_count I → early I P k ≡ true → reader_of I k ≡ j → reads_early I P j ≡ true
  unfolding reads_early
  reads-early k j l e q = any_some (file_count I) (early_for I P j) k l (rw (eq-eqb (reader_of I k) j q) e)

  early-read : (j : ℕ) → reads_early I P j ≡ true → (k : ℕ) × (k < file_count I) × (early I P k ≡ true) × (reader_of I k ≡ j)
  unfolding reads_early
  early-read j h =
      let r = any_found (file_count I) (early_for I P j) h in
      let x = and-true (eqb (reader_of I r.0) j) (early I P r.0) r.2 in
      (r.0, r.1, x.1, eqb-true _ _ x.0)

  pub first-early : least_where (file_count I) (task_count I) (early I P) (reader_of I) ≡ first_below (task_count I) (reads_early I P)
  first-early =
      let n = task_count I in
      let m = file_count I in
      first-is n (reads_early I P) (least_where m n (early I P) (reader_of I)) (least-default n (early I P) (reader_of I) m)
      (λ l. let r = least-reached n (early I P) (reader_of I) m l in reads-early r.0 _ r.1 r.2 r.3)
      (λ t l h. let r = early-read t h in omega (arith, least-bound n (early I P) (reader_of I) m r.0 r.1 r.2, r.3))
