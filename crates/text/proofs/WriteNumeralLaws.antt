-- Laws of the numbers written: how many digits a number has, and the loop that writes them from the last to the first.
use Prim.Native.Nat.{ℕ, zero, suc, ◌+◌, ◌/◌, ◌%◌, ◌≤◌, ◌<◌}
use mathlib.Core.Path.{◌≡◌, refl, ap, ◌∙◌}
use mathlib.Core.List.{List, [], ◌∷◌, ◌++◌}
use native.Mathlib.Omega.{arith}
use native.Mathlib.Numerals.{add-one}
use lib.ListN.{length, drop, length-append}
use Rattle.rules.specs.Text.{decimal}
use Rattle.rules.specs.Calls.{overwritten}
use Rattle.rules.proofs.NumeralLaws.{decimal-small, decimal-more, by_digits}

-- ---- how many digits
pub length-small : (n : ℕ) → n < 10 → length (decimal n) ≡ 1
length-small n h = ap length (decimal-small n h)

pub length_more : (n : ℕ) → 10 ≤ n → length (decimal n) ≡ length (decimal (n / 10)) + 1
length_more n h = ap length (decimal-more n h) ∙ simp length-append

-- ---- the last k digits of n
abbrev pub last_digits_of : ℕ → ℕ → List ℕ
last_digits_of zero n = []
last_digits_of (suc k) n = last_digits_of k (n / 10) ++ ((48 + n % 10) ∷ [])

last_digits : (n : ℕ) → last_digits_of (length (decimal n)) n ≡ decimal n
last_digits =
    by_digits (λ n. last_digits_of (length (decimal n)) n ≡ decimal n)
    (λ n h. rw (decimal-small n h) (ap (λ (d : ℕ). (48 + d) ∷ []) (omega arith)))
    (λ n h ih. rw (decimal-more n h, length-append, add-one, ih))

-- k digits are still to be written, those of v; behind them all is done
pub record Pending (value : ℕ) (old out : List ℕ) (k v : ℕ) : Type 0 where
  pub room : k ≤ length old
  pub long : length out ≡ length old
  pub done : last_digits_of k v ++ drop k out ≡ overwritten (decimal value) old

pub pending-start : (value : ℕ) (old : List ℕ) (n : ℕ) → n ≡ length (decimal value) → length (decimal value) ≤ length old → Pending value old old n value
pending-start value old n e h = record { room = omega arith; long = refl; done = rw (e, last_digits value) }
