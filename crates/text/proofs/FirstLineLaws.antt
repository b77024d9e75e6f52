-- Laws of the first line: what it and the text behind it are among the lines of the text.
use Prim.Native.Nat.{ℕ, suc, ◌+◌, ◌-◌, ◌≤◌, ◌<◌}
use mathlib.Core.Path.{◌≡◌, refl, sym, ap, ◌∙◌}
use mathlib.Core.Bool.{Bool, true, false, not}
use mathlib.Core.List.{List, [], ◌∷◌}
use native.Mathlib.Omega.{arith}
use native.Mathlib.Numerals.{add-one}
use borrow.Author.Tests.{not-true, not-false, lt-ltb, le-ltb}
use lib.Dec.{eqb}
use lib.ListN.{length, take, drop}
use lib.Seq.{take_all}
use Rattle.std.specs.Prelude.{Option, Some, None, position}
use Rattle.std.specs.List.{prefix_len}
use Rattle.rules.specs.Text.{ended, unended, lines_of}
use Rattle.rules.proofs.Tests.{split, by_order}
use Rattle.rules.proofs.LineLaws.{lines_end, lines_more}
use Rattle.text.specs.FirstLine.{first_line}
use Rattle.std.proofs.lemmas.List.{take_rest}
use Rattle.text.proofs.FrontLaws.{Front, front-within, front-take}

pub no-first : first_line [] ≡ []
unfolding first_line
no-first = refl

module _ (b : ℕ) (bs : List ℕ) where
  pub first_more : eqb b 10 ≡ false → first_line (b ∷ bs) ≡ b ∷ first_line bs
  unfolding first_line
  first_more e = rw (e, first_line)

  pub first-stop : eqb b 10 ≡ true → first_line (b ∷ bs) ≡ []
  unfolding first_line
  first-stop e = rw (e, first_line)

-- a byte of the line: not LF
abbrev pub in_line : ℕ → Bool
in_line b = not (eqb b 10)

pub line-front : Front in_line first_line
unfolding first_line
line-front =
    record {
      none = refl;
      more = λ b bs e. first_more b bs (not-true _ e);
      stop = λ b bs e. first-stop b bs (not-false _ e);
    }

pub line-within : (bs : List ℕ) → length (first_line bs) ≤ length bs
line-within = front-within line-front

-- ---- the empty text
pub no_line : lines_of [] ≡ []
unfolding lines_of
no_line = refl

-- ---- a text with an LF: its first line, and the lines behind the LF
pub line-ended : (bs : List ℕ) → length (first_line bs) < length bs → lines_of bs ≡ ended (first_line bs) ∷ lines_of (drop (suc (length (first_line bs))) bs)
unfolding first_line
line-ended [] h = absurd (omega arith)
line-ended (b ∷ bs) h =
    let ih : length (first_line bs) < length bs → lines_of bs ≡ ended (first_line bs) ∷ lines_of (drop (suc (length (first_line bs))) bs) = λ l. line-ended bs l in
    split (eqb b 10)
    (λ e. lines_end b bs e ∙ rw (first-stop b bs e))
    (λ e. lines_more b bs e ∙ rw (first_more b bs e, ih (omega (arith, rw (first_more b bs e) at h))))

module _ (bs line : List ℕ) (e : line ≡ first_line bs) (h : length line < length bs) where
  -- behind the line, counted as the code counts
  pub line-behind : lines_of bs ≡ ended line ∷ lines_of (drop (length line + 1) bs)
  line-behind = rw (add-one, e) (line-ended bs (rw e at h))

  -- the same for the part `&bs[line.len() + 1..]`
  pub line-part : lines_of bs ≡ ended line ∷ lines_of (take (length bs - (length line + 1)) (drop (length line + 1) bs))
  line-part = rw (take_rest bs (length line + 1)) line-behind

-- ---- a text with no LF is one line
whole-more : (b : ℕ) (bs : List ℕ) → length (first_line (b ∷ bs)) ≡ suc (length bs) → (eqb b 10 ≡ false) × (length (first_line bs) ≡ length bs)
whole-more b bs h =
    split (eqb b 10)
    (λ e. absurd (omega (arith, rw (first-stop b bs e) at h)))
    (λ e. (e, omega (arith, rw (first_more b bs e) at h)))

pub line-whole : (bs : List ℕ) → length (first_line bs) ≡ length bs → first_line bs ≡ bs
unfolding first_line
line-whole [] h = refl
line-whole (b ∷ bs) h = let (e, l) = whole-more b bs h in first_more b bs e ∙ ap (λ (t : List ℕ). b ∷ t) (line-whole bs l)

pub line-unended : (bs : List ℕ) → 0 < length bs → length (first_line bs) ≡ length bs → lines_of bs ≡ unended bs ∷ []
line-unended [] p h = absurd (omega arith)
line-unended (b ∷ []) p h = let (e, l) = whole-more b [] h in lines_more b [] e ∙ rw no_line
line-unended (b ∷ c ∷ bs) p h = let (e, l) = whole-more b (c ∷ bs) h in lines_more b (c ∷ bs) e ∙ rw (line-unended (c ∷ bs) (omega arith) l)

-- ---- the place of the first LF
module _ (text : List ℕ) {r : Option ℕ} (e : r ≡ position (λ b. eqb b 10) text) where
  pub line-cut : (n : ℕ) → r ≡ Some n → take n text ≡ first_line text
  line-cut n h =
      by_order (prefix_len in_line text) (length text)
      (λ g.
      let q : prefix_len in_line text ≡ n = let z = rw (lt-ltb _ _ g) at e in cc in
      rw (← q) (sym (front-take line-front text)))
      (λ g. let z : r ≡ None = rw (le-ltb _ _ g) at e in cc)

  pub line-uncut : r ≡ None → text ≡ first_line text
  line-uncut h =
      by_order (prefix_len in_line text) (length text)
      (λ g. let z : r ≡ Some (prefix_len in_line text) = rw (lt-ltb _ _ g) at e in cc)
      (λ g. sym (front-take line-front text ∙ take_all _ text g))
