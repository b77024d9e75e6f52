-- Laws of a line that is read from the text as it is met: a sign or a number at the front of the text is one at the front of its first line.
use Prim.Native.Nat.{ℕ, suc, ◌+◌, ◌≤◌, ◌<◌}
use mathlib.Core.Path.{◌≡◌, refl, sym, ap, ◌∙◌}
use mathlib.Core.Bool.{Bool, true, false, not, cond, ◌&&◌}
use mathlib.Core.List.{List, [], ◌∷◌, ◌++◌}
use mathlib.Core.Option.{Option, none, some}
use native.Mathlib.Nat.{add_comm}
use native.Mathlib.Numerals.{add-one}
use native.Mathlib.Omega.{arith}
use borrow.Author.Tests.{eqb-true, eqb-false, eq-eqb, ne_eqb, not-true, lt-ltb, le-ltb, ltb-true}
use lib.Dec.{eqb, ltb}
use lib.ListN.{length, drop, length-append, length-drop}
use lib.Seq.{drop-drop, drop-append_seam}
use Rattle.rules.specs.Limits.{max_digits}
use Rattle.rules.specs.Text.{ended, lines_of, digit, digits_of, numeral, value_from, is_number, starts_with, and_then, scan_by, scan}
use Rattle.rules.proofs.Tests.{split, clash, by_order, and-true, and-false, and_no, eqb-sym}
use Rattle.rules.proofs.NumeralLaws.{digits_more, digits-stop, digit-bounds}
use Rattle.rules.proofs.FormLaws.{scan-number, scan-no-number, scan-sign, scan-no-sign}
use Rattle.text.specs.FirstLine.{first_line}
use Rattle.text.specs.Cut.{plain, scan_ended, Cut}
use Rattle.text.proofs.FirstLineLaws.{first_more, first-stop, no-first, line-behind}
use Rattle.text.proofs.FrontLaws.{front-within}
use Rattle.text.proofs.ReadNumeralLaws.{digits-front, no-digits}

-- ---- a sign at the front
pub starts-long : (s : ℕ) (l : List ℕ) → starts_with s l ≡ true → 0 < length l
starts-long s [] e = clash e refl
starts-long s (b ∷ l) e = omega arith

starts-line : (s : ℕ) (t : List ℕ) → eqb s 10 ≡ false → starts_with s (first_line t) ≡ starts_with s t
starts-line s [] h = rw no-first
starts-line s (b ∷ bs) h =
    split (eqb b 10)
    (λ e. rw (first-stop b bs e) (sym (ne_eqb s b (λ q. eqb-false s 10 h (q ∙ eqb-true b 10 e)))))
    (λ e. rw (first_more b bs e))

-- the first line of a text that starts with a sign
line-sign : (s : ℕ) (t : List ℕ) → eqb s 10 ≡ false → starts_with s t ≡ true → first_line t ≡ s ∷ first_line (drop 1 t)
line-sign s [] h e = clash e refl
line-sign s (b ∷ bs) h e =
    let q : s ≡ b = eqb-true s b e in
    rw (q) (first_more b bs (rw q at h))

-- ---- a number at the front

digit-in-line : (b : ℕ) → digit b ≡ true → eqb b 10 ≡ false
digit-in-line b h = ne_eqb b 10 (λ q. omega (arith, digit-bounds b h))

digits-line : (t : List ℕ) → digits_of (first_line t) ≡ digits_of t
digits-line [] = rw no-first
digits-line (b ∷ bs) =
    let ih : digits_of (first_line bs) ≡ digits_of bs = digits-line bs in
    split (digit b)
    (λ h. rw (first_more b bs (digit-in-line b h), digits_more b (first_line bs) h, digits_more b bs h, ih))
    (λ h.
    split (eqb b 10)
    (λ e. rw (first-stop b bs e, digits-stop b bs h) no-digits)
    (λ e. rw (first_more b bs e, digits-stop b (first_line bs) h, digits-stop b bs h)))

-- the first line of a text that starts with digits
pub line-digits : (t : List ℕ) → first_line t ≡ digits_of t ++ first_line (drop (length (digits_of t)) t)
line-digits [] = rw no-digits
line-digits (b ∷ bs) =
    let ih : first_line bs ≡ digits_of bs ++ first_line (drop (length (digits_of bs)) bs) = line-digits bs in
    split (digit b)
    (λ h. rw (digits_more b bs h) (first_more b bs (digit-in-line b h) ∙ ap (λ (l : List ℕ). b ∷ l) ih))
    (λ h. rw (digits-stop b bs h))

-- ---- whether LF ends the first line is told behind any front of it
shift-ltb : (n a b : ℕ) → ltb (n + a) (n + b) ≡ ltb a b
shift-ltb n a b =
    by_order a b
    (λ h. lt-ltb (n + a) (n + b) (omega arith) ∙ sym (lt-ltb a b h))
    (λ h. le-ltb (n + a) (n + b) (omega arith) ∙ sym (le-ltb a b h))

module _ (p t : List ℕ) (n : ℕ) (h : length p ≡ n) (w : n ≤ length t) (e : first_line t ≡ p ++ first_line (drop n t)) where
  ended-on : ltb (length (first_line t)) (length t) ≡ ltb (length (first_line (drop n t))) (length (drop n t))
  ended-on =
      let a : length (first_line t) ≡ n + length (first_line (drop n t)) = ap length e ∙ length-append p (first_line (drop n t)) ∙ rw h in
      let b : length t ≡ n + length (drop n t) = omega (arith, length-drop n t) in
      ap (λ (x : ℕ). ltb x (length t)) a ∙ ap (ltb (n + length (first_line (drop n t)))) b ∙ shift-ltb n _ _

-- ---- one sign of a form, read from the text
no-form : (b : Bool) → ◌≡◌ {A = Option (List ℕ)} (cond b none none) none
no-form true = refl
no-form false = refl

nothing-found : (form t : List ℕ) → scan form (first_line t) ≡ none → scan_ended form t ≡ none
unfolding scan_ended
nothing-found form t e = rw e (no-form (ltb (length (first_line t)) (length t)))

and-then : (b : Bool) (v : ℕ) (o : Option (List ℕ)) → cond b (and_then v o) none ≡ and_then v (cond b o none)
and-then true v o = refl
and-then false v o = refl

module _ (s : ℕ) (form t : List ℕ) where
  module _ (h : is_number s ≡ false) (g : eqb s 10 ≡ false) where
    pub ended-no-sign : starts_with s t ≡ false → scan_ended (s ∷ form) t ≡ none
    ended-no-sign e = nothing-found (s ∷ form) t (scan-no-sign max_digits s form (first_line t) h (starts-line s t g ∙ e))

    pub ended-sign : starts_with s t ≡ true → scan_ended (s ∷ form) t ≡ scan_ended form (drop 1 t)
    unfolding scan_ended
    ended-sign e =
        let q : first_line t ≡ s ∷ first_line (drop 1 t) = line-sign s t g e in
        rw (ended-on (s ∷ []) t 1 refl (starts-long s t e) q, scan-sign max_digits s form (first_line t) h (starts-line s t g ∙ e), q)

  module _ (h : is_number s ≡ true) where
    pub ended-no-number : numeral (digits_of t) ≡ false → scan_ended (s ∷ form) t ≡ none
    ended-no-number e = nothing-found (s ∷ form) t (scan-no-number max_digits s form (first_line t) h (ap numeral (digits-line t) ∙ e))

    pub ended-number : numeral (digits_of t) ≡ true
        → scan_ended (s ∷ form) t ≡ and_then (value_from 0 (digits_of t)) (scan_ended form (drop (length (digits_of t)) t))
    unfolding scan_ended
    ended-number e =
        let ds = digits_of t in
        let w : length ds ≤ length t = front-within digits-front t in
        let q : first_line t ≡ ds ++ first_line (drop (length ds) t) = line-digits t in
        let r : drop (length ds) (first_line t) ≡ first_line (drop (length ds) t) = ap (drop (length ds)) q ∙ drop-append_seam ds _ in
        rw (ended-on ds t (length ds) refl w q, scan-number max_digits s form (first_line t) h (ap numeral (digits-line t) ∙ e), digits-line t, r)
        (and-then (ltb (length (first_line (drop (length ds) t))) (length (drop (length ds) t))) (value_from 0 ds) (scan form (first_line (drop (length ds) t))))

-- ---- the end of a form: LF
pub ended-end : (t : List ℕ) → starts_with 10 t ≡ true → scan_ended [] t ≡ some []
unfolding scan_ended scan_by
ended-end [] e = clash e refl
ended-end (b ∷ bs) e =
    let q : 10 ≡ b = eqb-true 10 b e in
    rw (first-stop b bs (eq-eqb b 10 (sym q)), lt-ltb 0 (suc (length bs)) (omega arith))

pub ended-long : (t : List ℕ) → starts_with 10 t ≡ false → scan_ended [] t ≡ none
unfolding scan_ended scan_by
ended-long [] e = rw no-first
ended-long (b ∷ bs) e = nothing-found [] (b ∷ bs) (rw (first_more b bs (eqb-sym b 10 ∙ e)))

-- ---- what a form finds in a text is found in its first line, which LF ends
pub record Found (form text vs : List ℕ) : Type 0 where
  pub short : length (first_line text) < length text
  pub scanned : scan form (first_line text) ≡ some vs

pub ended_some : (form text vs : List ℕ) → scan_ended form text ≡ some vs → Found form text vs
unfolding scan_ended
ended_some form text vs e =
    split (ltb (length (first_line text)) (length text))
    (λ h. record { short = ltb-true _ _ h; scanned = rw h at e })
    (λ h. let z : none ≡ some vs = rw h at e in let y : ◌≡◌ {A = ℕ} 0 1 = cc in absurd (omega arith))

pub ended-none : (form text : List ℕ) → scan_ended form text ≡ none → length (first_line text) < length text → scan form (first_line text) ≡ none
unfolding scan_ended
ended-none form text e h = rw (lt-ltb _ _ h) at e

-- ---- a word at the front of a form and of a text
-- a text starts with a word
abbrev pub begins : List ℕ → List ℕ → Bool
begins [] text = true
begins (s ∷ word) text = starts_with s text && begins word (drop 1 text)

drop_more : (n : ℕ) (t : List ℕ) → drop n (drop 1 t) ≡ drop (suc n) t
drop_more n t = drop-drop n 1 t ∙ rw (add_comm 1 n, add-one n)

module _ (form : List ℕ) where
  pub word-met : (word t : List ℕ) → plain word ≡ true → begins word t ≡ true → scan_ended (word ++ form) t ≡ scan_ended form (drop (length word) t)
  word-met [] t p e = refl
  word-met (s ∷ word) t p e =
      let (q, r) = and-true (not (is_number s) && not (eqb s 10)) (plain word) p in
      let (n, l) = and-true (not (is_number s)) (not (eqb s 10)) q in
      let (x, y) = and-true (starts_with s t) (begins word (drop 1 t)) e in
      ended-sign s (word ++ form) t (not-true _ n) (not-true _ l) x ∙ word-met word (drop 1 t) r y ∙ rw (drop_more (length word) t)

  pub word-missed : (word t : List ℕ) → plain word ≡ true → begins word t ≡ false → scan_ended (word ++ form) t ≡ none
  word-missed [] t p e = clash refl e
  word-missed (s ∷ word) t p e =
      let (q, r) = and-true (not (is_number s) && not (eqb s 10)) (plain word) p in
      let (n, l) = and-true (not (is_number s)) (not (eqb s 10)) q in
      let ih : begins word (drop 1 t) ≡ false → scan_ended (word ++ form) (drop 1 t) ≡ none = word-missed word (drop 1 t) r in
      split (starts_with s t)
      (λ x. ended-sign s (word ++ form) t (not-true _ n) (not-true _ l) x ∙ ih (and-false (starts_with s t) (begins word (drop 1 t)) x e))
      (λ x. ended-no-sign s (word ++ form) t (not-true _ n) (not-true _ l) x)

-- two words of which neither starts the other
abbrev pub differ : List ℕ → List ℕ → Bool
differ [] other = false
differ (s ∷ word) [] = false
differ (s ∷ word) (r ∷ other) = cond (eqb s r) (differ word other) true

begins-one : (word other t : List ℕ) → differ word other ≡ true → begins word t ≡ true → begins other t ≡ false
begins-one [] other t d e = clash d refl
begins-one (s ∷ word) [] t d e = clash d refl
begins-one (s ∷ word) (r ∷ other) [] d e = refl
begins-one (s ∷ word) (r ∷ other) (b ∷ t) d e =
    let (x, y) = and-true (eqb s b) (begins word t) e in
    let z : s ≡ b = eqb-true s b x in
    let ih : differ word other ≡ true → begins other t ≡ false = λ g. begins-one word other t g y in
    split (eqb s r)
    (λ q. rw (ih (rw q at d)) (and_no (eqb r b)))
    (λ q. rw (ne_eqb r b (λ g. eqb-false s r q (z ∙ sym g))))

-- a text that has one form does not have a form of another word
pub other-form : (word form other rest text vs : List ℕ) → plain word ≡ true → plain other ≡ true → differ word other ≡ true
    → scan_ended (word ++ form) text ≡ some vs → scan_ended (other ++ rest) text ≡ none
other-form word form other rest text vs p q d e =
    split (begins word text)
    (λ b. word-missed rest other text q (begins-one word other text d b))
    (λ b. let z : none ≡ some vs = sym (word-missed form word text p b) ∙ e in let y : ◌≡◌ {A = ℕ} 0 1 = cc in absurd (omega arith))

-- ---- a line that was cut, and the text behind it
module _ (form text : List ℕ) {line found rest : List ℕ} (r : Cut (scan_ended form text) text line found rest) where
  pub cut-short : length line < length text
  cut-short = rw r.first (ended_some form text r.values r.scanned).short

  pub cut-lines : lines_of text ≡ ended line ∷ lines_of rest
  cut-lines = rw r.behind (line-behind text line r.first cut-short)

  pub cut-left : length rest + length line < length text
  cut-left = rw (r.behind, length-drop) (omega (arith, cut-short))
