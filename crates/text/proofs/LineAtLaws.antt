-- The lines of a text by number, as the loop of `line_from` passes over them.
use Prim.Native.Nat.{ℕ, zero, suc, ◌+◌, ◌-◌, ◌≤◌, ◌<◌}
use mathlib.Core.Path.{◌≡◌, sym, ◌∙◌}
use mathlib.Core.List.{List, [], ◌∷◌}
use native.Mathlib.Omega.{arith}
use lib.ListN.{length, take, drop}
use Rattle.text.specs.FirstLine.{first_line, line_from}
use Rattle.text.proofs.FirstLineLaws.{no_line, line-within, line-part, line-unended, line-whole, line-ended}
use Rattle.rules.proofs.Tests.{by_order}

-- the line looked for is line `left` of what is left
pub record Skipping (text : List ℕ) (n : ℕ) (rest : List ℕ) (left : ℕ) : Type 0 where
  pub same : line_from text n ≡ line_from rest left

-- the lines of a text that is its first line
only-line : (rest : List ℕ) (n : ℕ) → length rest ≤ length (first_line rest) → line_from rest (suc n) ≡ []
only-line [] n h = rw no_line
only-line (b ∷ bs) n h = rw (line-unended (b ∷ bs) (omega arith) (omega (arith, line-within (b ∷ bs))))

front-line : (rest : List ℕ) → line_from rest 0 ≡ first_line rest
front-line [] = rw no_line (sym (line-whole [] (omega (arith, line-within []))))
front-line (b ∷ bs) =
    by_order (length (first_line (b ∷ bs))) (length (b ∷ bs))
    (λ h. rw (line-ended (b ∷ bs) h))
    (λ h.
    let e : length (first_line (b ∷ bs)) ≡ length (b ∷ bs) = omega (arith, line-within (b ∷ bs)) in
    rw (line-unended (b ∷ bs) (omega arith) e) (sym (line-whole (b ∷ bs) e)))

module _ {text : List ℕ} {n : ℕ} {rest : List ℕ} where
  pub skipping-end : (left : ℕ) → Skipping text n rest left → left ≤ 0 → line_from text n ≡ first_line rest
  skipping-end zero s h = s.same ∙ front-line rest
  skipping-end (suc m) s h = absurd (omega arith)

  module _ (line : List ℕ) (e : line ≡ first_line rest) where
    pub skipping-none : (left : ℕ) → Skipping text n rest left → 0 < left → length rest ≤ length line → line_from text n ≡ []
    skipping-none zero s h g = absurd (omega arith)
    skipping-none (suc m) s h g = s.same ∙ only-line rest m (rw e at g)

    pub skipping-more : (left : ℕ) → Skipping text n rest left → 0 < left → length line < length rest
        → (next : ℕ) → next + 1 ≡ left → Skipping text n (take (length rest - (length line + 1)) (drop (length line + 1) rest)) next
    skipping-more zero s h g next f = absurd (omega arith)
    skipping-more (suc m) s h g next f =
        let q : next ≡ m = omega arith in
        record { same = s.same ∙ rw (q, line-part rest line e g) }
