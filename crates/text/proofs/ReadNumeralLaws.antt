-- Laws of numerals as the code reads them: which digits spell a number, and the number so far.
use Prim.Native.Nat.{ℕ, suc, ◌+◌, ◌-◌, ◌*◌, ◌^◌, ◌≤◌, ◌<◌}
use mathlib.Core.Path.{◌≡◌, refl, sym, ap, ◌∙◌}
use mathlib.Core.Bool.{true, false}
use mathlib.Core.List.{List, [], ◌∷◌}
use native.Mathlib.Nat.{add-zero, pow-suc, pow-le-pow_right}
use native.Mathlib.Numerals.{add-one}
use native.Mathlib.Omega.{arith}
use borrow.Author.Tests.{eq-eqb, ne_eqb, le-leb}
use lib.Dec.{leb, lit<}
use lib.ListN.{length, get_or, drop, drop_of_length-le}
use lib.Seq.{drop-cons}
use Rattle.rules.specs.Limits.{max_digits}
use Rattle.rules.specs.Text.{digit, digits_of, numeral, value_from}
use Rattle.rules.proofs.Tests.{split, is_false}
use Rattle.rules.proofs.NumeralLaws.{digits_more, digits-stop, numeral-long}
use Rattle.text.specs.Numerals.{Summed, Spelled}
use Rattle.text.proofs.FrontLaws.{Front, front-within}

pub no-digits : digits_of [] ≡ []
unfolding digits_of
no-digits = refl

pub digits-front : Front digit digits_of
unfolding digits_of
digits-front = record { none = refl; more = digits_more; stop = digits-stop }

-- ---- which digits spell a number
pub numeral-none : (ds : List ℕ) → length ds ≡ 0 → numeral ds ≡ false
numeral-none [] h = refl
numeral-none (d ∷ ds) h = absurd (omega arith)

pub numeral-one : (ds : List ℕ) → length ds ≡ 1 → numeral ds ≡ true
numeral-one [] h = absurd (omega arith)
numeral-one (d ∷ []) h = refl
numeral-one (d ∷ e ∷ ds) h = absurd (omega arith)

pub numeral-zero : (ds : List ℕ) → 1 < length ds → get_or ds 0 0 ≡ 48 → numeral ds ≡ false
numeral-zero [] h z = absurd (omega arith)
numeral-zero (d ∷ []) h z = absurd (omega arith)
numeral-zero (d ∷ e ∷ ds) h z = rw (eq-eqb d 48 z)

pub numeral-many : (ds : List ℕ) → 1 < length ds → (get_or ds 0 0 ≡ 48 → ⊥) → numeral ds ≡ leb (length ds) max_digits
numeral-many [] h z = absurd (omega arith)
numeral-many (d ∷ []) h z = absurd (omega arith)
numeral-many (d ∷ e ∷ ds) h z = rw (ne_eqb d 48 z)

-- ---- digits at the front of a text, summed up as they are met: v after n of them
-- The bound holds of any bytes, since a byte is at most 207 above '0'.
pub record Summing (text : List ℕ) (v n : ℕ) : Type 0 where
  pub within : n ≤ length text
  pub few : n ≤ max_digits
  pub small : v + 24 ≤ 24 * 10 ^ n
  pub size : length (digits_of text) ≡ n + length (digits_of (drop n text))
  pub value : value_from 0 (digits_of text) ≡ value_from v (digits_of (drop n text))

pub summing-none : (text : List ℕ) → Summing text 0 0
summing-none text = record { within = omega arith; few = omega arith; small = omega arith; size = omega arith; value = refl }

spells : (text : List ℕ) {v n : ℕ} → Summed text v n → numeral (digits_of text) ≡ true → Spelled text v n
spells text s e = record { is_numeral = e; size = s.size; value = s.value }

module _ {text : List ℕ} {v n : ℕ} (r : Summing text v n) where
  pub summing-below : v + 24 ≤ 24 * 10 ^ max_digits
  summing-below = omega (arith, r.small, pow-le-pow_right {n = 10} (lit< tt) {i = n} {j = max_digits} r.few)

  all-met : digits_of (drop n text) ≡ [] → Summed text v n
  all-met e = record { few = r.few; size = sym (r.size ∙ rw e (add-zero n)); value = sym (r.value ∙ rw e) }

  pub summing-end : length text ≤ n → (size : ℕ) → size ≡ n → Summed text v size
  summing-end h size e = rw e (all-met (rw (drop_of_length-le text h) no-digits))

  module _ (h : n < length text) where
    pub summing-stop : digit (get_or text n 0) ≡ false → Summed text v n
    summing-stop d = all-met (rw (drop-cons text n 0 h) (digits-stop (get_or text n 0) (drop (suc n) text) d))

    module _ (d : digit (get_or text n 0) ≡ true) where
      next-digit : digits_of (drop n text) ≡ get_or text n 0 ∷ digits_of (drop (suc n) text)
      next-digit = rw (drop-cons text n 0 h) (digits_more (get_or text n 0) (drop (suc n) text) d)

      pub summing-more : (n ≡ max_digits → ⊥) → (u : ℕ) → u ≡ get_or text n 0 - 48 → u ≤ 207 → Summing text (v * 10 + u) (n + 1)
      summing-more k u e l =
          record {
            within = omega arith;
            few = omega (arith, r.few);
            small = rw (add-one, pow-suc) (omega (arith, r.small));
            size = rw (add-one n) (omega (arith, r.size, ap length next-digit));
            value = r.value ∙ rw (next-digit, add-one n, e);
          }

      -- a digit more than a number has
      pub summing-long : n ≡ max_digits → numeral (digits_of text) ≡ false
      summing-long k =
          is_false _ (λ t. omega (arith, numeral-long max_digits (omega arith) (digits_of text) t, r.size, ap length next-digit))

-- ---- all digits are met
first-digit : (text : List ℕ) → 0 < length (digits_of text) → get_or text 0 0 ≡ get_or (digits_of text) 0 0
first-digit [] h = absurd (omega (arith, ap length no-digits))
first-digit (b ∷ bs) h =
    split (digit b)
    (λ d. rw (digits_more b bs d))
    (λ d. absurd (omega (arith, ap length (digits-stop b bs d))))

module _ {text : List ℕ} {v n : ℕ} (s : Summed text v n) where
  pub read_at : 1 < n → 0 < length text
  read_at h = omega (arith, s.size, front-within digits-front text)

  pub no-digit : n ≡ 0 → numeral (digits_of text) ≡ false
  no-digit z = numeral-none (digits_of text) (omega (arith, s.size))

  pub one-digit : n ≡ 1 → Spelled text v n
  one-digit h = spells text s (numeral-one (digits_of text) (omega (arith, s.size)))

  module _ (h : 1 < n) where
    pub zero-leads : get_or text 0 0 ≡ 48 → numeral (digits_of text) ≡ false
    zero-leads z = numeral-zero (digits_of text) (omega (arith, s.size)) (sym (first-digit text (omega (arith, s.size))) ∙ z)

    pub many-digits : (get_or text 0 0 ≡ 48 → ⊥) → Spelled text v n
    many-digits z =
        spells text s
        (numeral-many (digits_of text) (omega (arith, s.size)) (λ e. z (first-digit text (omega (arith, s.size)) ∙ e))
        ∙ le-leb (length (digits_of text)) max_digits (omega (arith, s.few, s.size)))
