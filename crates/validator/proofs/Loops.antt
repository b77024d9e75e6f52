-- The runs of all tasks and one turn of the loop over the files, and what they come to.
use Prim.Native.Nat.{ℕ, ◌+◌, ◌<◌, min}
use mathlib.Core.Bool.{Bool, true, false, cond}
use mathlib.Core.List.{List}
use lib.ListN.{length}
use Rattle.std.specs.Prelude.{Option, Some, None}
use Rattle.std.specs.Option.{unwrap_or}
use mathlib.Core.Path.{◌≡◌, refl, sym, ap, ◌∙◌}
use native.Mathlib.Omega.{arith}
use Rattle.rules.specs.Count.{first_below}
use Rattle.rules.specs.Model.{Instance, Schedule, task_count, file_count}
use Rattle.rules.specs.Validity.{overlaps, early, reads_early}
use Rattle.runs.specs.declared.Run.{Run}
use Rattle.runs.specs.First.{FirstOverlap}
use Rattle.validator.specs.Least.{least_where}
use Rattle.validator.specs.Records.{Records}
use Rattle.validator.proofs.EarlyLaws.{reader_of, first-early}
use Rattle.validator.proofs.LeastLaws.{least-next, least-default}
use Rattle.validator.proofs.OverlapLaws.{lowest-overlapping}

module _ (I : Instance) (P : Schedule) {n : ℕ} (t : task_count I ≡ n) where
  -- ---- 15

  pub overlap-total : (l : List Run) (o : Option ℕ) → Records I P n l → length l ≡ n → FirstOverlap l (length l) (unwrap_or o (length l))
      → unwrap_or o n ≡ first_below (task_count I) (overlaps I P)
  overlap-total l o all h F = lowest-overlapping I P l (rw t all) (unwrap_or o n) (rw t (rw h at F))

  -- ---- 16

  lower-of : (o : Option ℕ) (j : ℕ) → j < n → min (unwrap_or o j) j ≡ min (unwrap_or o n) j
  lower-of None j h = omega arith
  lower-of (Some i) j h = refl

  pub early-found : (k : ℕ) (o : Option ℕ) {j : ℕ} {x : Bool} → unwrap_or o n ≡ least_where k n (early I P) (reader_of I) → x ≡ early I P k → x ≡ true
      → j ≡ reader_of I k → j < n → {u r : ℕ} → u ≡ unwrap_or o j → r ≡ min u j → r ≡ least_where (k + 1) n (early I P) (reader_of I)
  early-found k o {j} e g h q l {u} y s =
      let z : cond (early I P k) (reader_of I k) n ≡ j = rw (sym g ∙ h, q) in
      omega (arith, least-next n (early I P) (reader_of I) k, lower-of o j l, s, ap (λ (w : ℕ). min w j) y, ap (λ (w : ℕ). min w j) e)

  pub early-passed : (k : ℕ) {m : ℕ} {x : Bool} → m ≡ least_where k n (early I P) (reader_of I) → x ≡ early I P k → x ≡ false
      → m ≡ least_where (k + 1) n (early I P) (reader_of I)
  early-passed k e g h =
      let z : cond (early I P k) (reader_of I k) n ≡ n = rw (sym g ∙ h) in
      omega (arith, least-next n (early I P) (reader_of I) k, least-default n (early I P) (reader_of I) k)

  pub early-total : (k : ℕ) {r : ℕ} → file_count I ≡ k → r ≡ least_where k n (early I P) (reader_of I) → r ≡ first_below (task_count I) (reads_early I P)
  early-total k f q =
      let z : least_where k n (early I P) (reader_of I) ≡ least_where (file_count I) (task_count I) (early I P) (reader_of I) = rw (f, t) in
      q ∙ z ∙ first-early I P
