-- The number that digits spell, as the library parses it.
use Prim.Native.Nat.{ℕ, zero, suc, ◌^◌, ◌<◌}
use mathlib.Core.Bool.{true, false}
use mathlib.Core.List.{List, [], ◌∷◌}
use mathlib.Core.Path.{◌≡◌, refl}
use native.Mathlib.Omega.{arith}
use borrow.Author.Tests.{lt-ltb, ltb-true}
use lib.Dec.{ltb}
use lib.ListN.{length}
use Rattle.std.proofs.Common.{rules}
use Rattle.std.specs.Prelude.{None, Result, Ok, Err}
use Rattle.std.specs.Char.{is_ascii_digit}
use Rattle.std.specs.List.{list_all}
use Rattle.std.specs.Result.{result_ok, OkIff}
use Rattle.std.specs.Str.{IsAscii}
use Rattle.std.specs.Str.Parse.{ParsesUnsigned}
use Rattle.std.proofs.lemmas.Str.Parse.{IsNumeralModel, numerals_by_fold, parse_digits}
use Rattle.rules.specs.Text.{value_from}
use Rattle.rules.proofs.Tests.{split, clash}
use Rattle.framewatch.specs.Decimal.{number_of}

-- digits in ASCII, and their value
own : IsNumeralModel (λ s. list_all is_ascii_digit s ≡ true) (value_from 0)
own = numerals_by_fold _ (search rules) value_from (search rules)

pub digits-ascii : (s : List ℕ) → list_all is_ascii_digit s ≡ true → IsAscii s
digits-ascii [] e i = grind arith
digits-ascii (b ∷ s) e zero = grind arith
digits-ascii (b ∷ s) e (suc i) = split (is_ascii_digit b) (λ d. digits-ascii s (rw d at e) i) (λ d. clash (rw d at e) refl)

pub number-none : (s : List ℕ) → list_all is_ascii_digit s ≡ false → None ≡ number_of s
number-none s e = rw e

module _ {E : Type 0} (s : List ℕ) (all : list_all is_ascii_digit s ≡ true) where
  number-ok : (r : Result ℕ E) → OkIff r ((0 < length s) × (value_from 0 s < 2 ^ 64)) (value_from 0 s) → result_ok r ≡ number_of s
  number-ok (Ok n) ((some, fits), e) = rw (all, lt-ltb _ _ some, lt-ltb _ _ fits, e)
  number-ok (Err x) never =
      split (ltb 0 (length s))
      (λ d. split (ltb (value_from 0 s) (2 ^ 64)) (λ e. absurd (never (ltb-true _ _ d, ltb-true _ _ e))) (λ e. rw (all, d, e)))
      (λ d. rw (all, d))

  pub number-is : (r : Result ℕ E) → ParsesUnsigned 64 10 s r → result_ok r ≡ number_of s
  number-is r h = number-ok r (parse_digits own 64 s r h all)
