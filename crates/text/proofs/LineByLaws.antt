-- The loops that cut a line from the front of a text by a form: its word, and then its signs and numbers.
use Prim.Native.Nat.{ℕ, suc, ◌+◌, ◌-◌, ◌≤◌, ◌<◌}
use mathlib.Core.Path.{◌≡◌, refl, sym, ap, ◌∙◌}
use mathlib.Core.Bool.{true, false, not, ◌&&◌}
use mathlib.Core.List.{List, [], ◌∷◌, ◌++◌}
use mathlib.Core.Option.{Option, none, some}
use native.Mathlib.Omega.{arith}
use native.Mathlib.Numerals.{add-one}
use borrow.Author.Tests.{eq-eqb, ne_eqb, eqb-true, not-true}
use lib.Dec.{eqb}
use lib.ListN.{length, get_or, set, take, drop, length-set, length-drop, drop_of_length-le}
use lib.Seq.{drop-cons, drop-drop, sets, set_out, take-append_seam, length-take-le}
use Rattle.rules.specs.Text.{digits_of, numeral, value_from, is_number, starts_with, and_then}
use Rattle.rules.proofs.Tests.{clash, and-true}
use Rattle.rules.proofs.NumeralLaws.{digits-split}
use Rattle.text.specs.FirstLine.{first_line, Passed}
use Rattle.text.specs.Numerals.{Spelled}
use Rattle.std.specs.Cmp.Lexicographic.{pointwise}
use Rattle.text.specs.Cut.{lineless, plain, Parted, scan_ended, first_four, Cut}
use Rattle.std.proofs.lemmas.List.{take_rest}
use Rattle.text.proofs.FrontLaws.{front-within, passed_none, passed_on, passed-more, passed-stop}
use Rattle.text.proofs.FirstLineLaws.{first_more, line-front}
use Rattle.text.proofs.ReadNumeralLaws.{digits-front}
use Rattle.text.proofs.CutLaws.{begins, starts-long, line-digits, ended-no-sign, ended-sign, ended-no-number, ended-number, ended-end, ended-long}
use Rattle.text.proofs.CutLaws.{word-met, word-missed}

-- ---- the byte at a place
module _ (s : ℕ) (text : List ℕ) (at : ℕ) where
  pub stands-some : at < length text → starts_with s (drop at text) ≡ eqb s (get_or text at 0)
  stands-some h = rw (drop-cons text at 0 h)

  stands-within : starts_with s (drop at text) ≡ true → at < length text
  stands-within e = omega (arith, starts-long s (drop at text) e, length-drop at text)

  stands-is : starts_with s (drop at text) ≡ true → s ≡ get_or text at 0
  stands-is e = eqb-true s _ (sym (stands-some (stands-within e)) ∙ e)

-- ---- the word
pub begins-same : (word text : List ℕ) → pointwise eqb word (take (length word) text) ≡ begins word text
begins-same [] text = refl
begins-same (s ∷ word) [] = refl
begins-same (s ∷ word) (b ∷ text) = rw (begins-same word text)

-- ---- what the first line is passed by
word-passed : (word text : List ℕ) → plain word ≡ true → begins word text ≡ true → Passed first_line text (length word)
word-passed [] text p e = passed_none first_line text
word-passed (s ∷ word) [] p e = clash e refl
word-passed (s ∷ word) (b ∷ text) p e =
    let (q, r) = and-true (not (is_number s) && not (eqb s 10)) (plain word) p in
    let (n, l) = and-true (not (is_number s)) (not (eqb s 10)) q in
    let (x, y) = and-true (eqb s b) (begins word text) e in
    let ih : Passed first_line text (length word) = word-passed word text r y in
    let z : eqb s 10 ≡ false = not-true _ l in
    record {
      within = omega (arith, ih.within);
      left = first_more b text (rw (eqb-true s b x) at z) ∙ ap (λ (t : List ℕ). b ∷ t) ih.left;
    }

digits-passed : (text : List ℕ) → Passed first_line text (length (digits_of text))
digits-passed text =
    let ds = digits_of text in
    let e : take (length ds) text ≡ ds = ap (take (length ds)) (digits-split text) ∙ take-append_seam ds (drop (length ds) text) in
    record { within = front-within digits-front text; left = rw e (line-digits text) }

-- ---- the numbers found, with those still to come stored from a place on
abbrev stored_in : List ℕ → ℕ → Option (List ℕ) → Option (List ℕ)
stored_in found count none = none
stored_in found count (some vs) = some (sets found count vs)

abbrev found_by : Option (List ℕ) → Option (List ℕ)
found_by none = none
found_by (some vs) = some (first_four vs)

sets-out : (vs l : List ℕ) (i : ℕ) → length l ≤ i → sets l i vs ≡ l
sets-out [] l i h = refl
sets-out (v ∷ vs) l i h = rw (set_out l i v h) (sets-out vs l (suc i) (omega arith))

four_in : (vs : List ℕ) → first_four vs ≡ sets (0 ∷ 0 ∷ 0 ∷ 0 ∷ []) 0 vs
four_in [] = refl
four_in (a ∷ []) = refl
four_in (a ∷ b ∷ []) = refl
four_in (a ∷ b ∷ c ∷ []) = refl
four_in (a ∷ b ∷ c ∷ d ∷ vs) = sym (sets-out vs (a ∷ b ∷ c ∷ d ∷ []) 4 (omega arith))

found-start : (o : Option (List ℕ)) → found_by o ≡ stored_in (0 ∷ 0 ∷ 0 ∷ 0 ∷ []) 0 o
found-start none = refl
found-start (some vs) = ap some (four_in vs)

found-more : (found : List ℕ) (count v : ℕ) (o : Option (List ℕ)) → stored_in found count (and_then v o) ≡ stored_in (set found count v) (suc count) o
found-more found count v none = refl
found-more found count v (some vs) = refl

found-none : (o : Option (List ℕ)) → found_by o ≡ none → o ≡ none
found-none none e = refl
found-none (some vs) e = let z : ◌≡◌ {A = ℕ} 0 1 = cc in absurd (omega arith)

found-some : (o : Option (List ℕ)) (found : List ℕ) → found_by o ≡ some found → (vs : List ℕ) × (o ≡ some vs) × (found ≡ first_four vs)
found-some none found e = let z : ◌≡◌ {A = ℕ} 0 1 = cc in absurd (omega arith)
found-some (some vs) found e = (vs, refl, cc)

-- ---- the loop over what follows the word, from `start` on
pub record Scanning (form text : List ℕ) (start : ℕ) (found : List ℕ) (at count i : ℕ) : Type 0 where
  pub four : length found ≡ 4
  pub behind : count ≤ i
  pub passed : Passed first_line text at
  pub signs : lineless (drop i form) ≡ true
  pub left : found_by (scan_ended form (drop start text)) ≡ stored_in found count (scan_ended (drop i form) (drop at text))

pub scanning-start : (form text : List ℕ) (start : ℕ) → lineless form ≡ true → Passed first_line text start
    → Scanning form text start (0 ∷ 0 ∷ 0 ∷ 0 ∷ []) start 0 0
scanning-start form text start l p =
    record { four = refl; behind = omega arith; passed = p; signs = l; left = found-start (scan_ended form (drop start text)) }

module _ {form text : List ℕ} {start : ℕ} {found : List ℕ} {at count i : ℕ} (r : Scanning form text start found at count i) where
  ends-none : scan_ended (drop i form) (drop at text) ≡ none → scan_ended form (drop start text) ≡ none
  ends-none e = found-none (scan_ended form (drop start text)) (r.left ∙ rw e)

  module _ (h : length form ≤ i) where
    form-done : drop i form ≡ []
    form-done = drop_of_length-le form h

    pub scanning-long : starts_with 10 (drop at text) ≡ false → scan_ended form (drop start text) ≡ none
    scanning-long e = ends-none (rw form-done (ended-long (drop at text) e))

    pub scanning-end : starts_with 10 (drop at text) ≡ true
        → Cut (scan_ended form (drop start text)) text (take at text) found (take (length text - (at + 1)) (drop (at + 1) text))
    scanning-end e =
        let q : first_line text ≡ take at text =
        passed-stop line-front r.passed (stands-within 10 text at e) (ap not (eq-eqb _ _ (sym (stands-is 10 text at e)))) in
        let (vs, s, f) = found-some (scan_ended form (drop start text)) found (r.left ∙ rw (form-done, ended-end (drop at text) e)) in
        record {
          first = sym q;
          behind = rw (length-take-le at text r.passed.within) (take_rest text (at + 1));
          values = vs;
          scanned = s;
          stored = f;
        }

  module _ (h : i < length form) where
    next-sign : drop i form ≡ get_or form i 0 ∷ drop (suc i) form
    next-sign = drop-cons form i 0 h

    no-lf : (not (eqb (get_or form i 0) 10) ≡ true) × (lineless (drop (suc i) form) ≡ true)
    no-lf = and-true (not (eqb (get_or form i 0) 10)) (lineless (drop (suc i) form)) (rw next-sign at r.signs)

    module _ (s : get_or form i 0 ≡ 35) where
      pub scanning-no-number : numeral (digits_of (take (length text - at) (drop at text))) ≡ false → scan_ended form (drop start text) ≡ none
      scanning-no-number e =
          ends-none (rw next-sign (ended-no-number (get_or form i 0) (drop (suc i) form) (drop at text) (eq-eqb _ _ s) (rw (take_rest text at) at e)))

      module _ {v n : ℕ} (o : Spelled (take (length text - at) (drop at text)) v n) where
        spelled-on : Spelled (drop at text) v n
        spelled-on = rw (take_rest text at) at o

        pub scanning-number : Scanning form text start (set found count v) (at + n) (count + 1) (i + 1)
        scanning-number =
            let size : n ≡ length (digits_of (drop at text)) = spelled-on.size in
            let value : v ≡ value_from 0 (digits_of (drop at text)) = spelled-on.value in
            let rest : drop n (drop at text) ≡ drop (at + n) text = drop-drop n at text in
            record {
              four = length-set found count v ∙ r.four;
              behind = omega (arith, r.behind);
              passed = passed_on r.passed (rw size (digits-passed (drop at text)));
              signs = rw (add-one i) no-lf.1;
              left =
                  r.left
                  ∙ rw (
                    next-sign,
                    ended-number (get_or form i 0) (drop (suc i) form) (drop at text) (eq-eqb _ _ s) spelled-on.is_numeral,
                    ← size,
                    ← value,
                    rest,
                    add-one i,
                    add-one count,
                  )
                  (found-more found count v (scan_ended (drop (suc i) form) (drop (at + n) text)));
            }

        -- a fifth number has no place
        pub scanning-fifth : 4 ≤ count → Scanning form text start found (at + n) (count + 1) (i + 1)
        scanning-fifth g = rw (set_out found count v (omega (arith, r.four))) at scanning-number

    module _ (s : get_or form i 0 ≡ 35 → ⊥) where
      pub scanning-no-sign : starts_with (get_or form i 0) (drop at text) ≡ false → scan_ended form (drop start text) ≡ none
      scanning-no-sign e =
          ends-none
          (rw next-sign (ended-no-sign (get_or form i 0) (drop (suc i) form) (drop at text) (ne_eqb _ _ s) (not-true _ no-lf.0) e))

      pub scanning-sign : starts_with (get_or form i 0) (drop at text) ≡ true → Scanning form text start found (at + 1) count (i + 1)
      scanning-sign e =
          let w : at < length text = stands-within (get_or form i 0) text at e in
          let q : get_or form i 0 ≡ get_or text at 0 = stands-is (get_or form i 0) text at e in
          let rest : drop 1 (drop at text) ≡ drop (at + 1) text = drop-drop 1 at text in
          record {
            four = r.four;
            behind = omega (arith, r.behind);
            passed = passed-more line-front r.passed w (rw q at no-lf.0);
            signs = rw (add-one i) no-lf.1;
            left =
                r.left
                ∙ rw (
                  next-sign,
                  ended-sign (get_or form i 0) (drop (suc i) form) (drop at text) (ne_eqb _ _ s) (not-true _ no-lf.0) e,
                  rest,
                  add-one i,
                );
          }

-- ---- the word, and what follows it
module _ {word form : List ℕ} (p : Parted word form) (text : List ℕ) where
  pub word-no-line : begins word text ≡ false → scan_ended (word ++ form) text ≡ none
  word-no-line e = word-missed form word text p.plain e

  module _ (e : begins word text ≡ true) where
    pub behind-word : Passed first_line text (length word)
    behind-word = word-passed word text p.plain e

    pub word-line : scan_ended (word ++ form) text ≡ scan_ended form (drop (length word) text)
    word-line = word-met form word text p.plain e
