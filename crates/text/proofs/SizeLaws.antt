-- How long a line is, and the loops that add up the lengths of pieces.
use Prim.Native.Nat.{ℕ, zero, suc, ◌+◌, ◌*◌, ◌^◌, ◌≤◌, ◌<◌}
use mathlib.Core.Path.{◌≡◌, ap}
use mathlib.Core.List.{List, [], ◌∷◌, ◌++◌}
use native.Mathlib.Nat.{mul-suc}
use native.Mathlib.Numerals.{add-one}
use native.Mathlib.Omega.{arith}
use lib.ListN.{length, get_or, drop, length-append}
use Rattle.rules.specs.Text.{lf, decimal, is_number, fill}
use Rattle.rules.proofs.Tests.{split}
use Rattle.rules.proofs.NumeralLaws.{decimal-long}
use Rattle.rules.proofs.FormLaws.{fill-number, fill-sign}
use Rattle.text.proofs.SinkLaws.{Pieces}

-- ---- one line

-- numbers of 64 bits
pub data Words : List ℕ → Type 0 where
  end : Words []
  word : {v : ℕ} {vs : List ℕ} → v < 2 ^ 64 → Words vs → Words (v ∷ vs)

-- each takes at most 20 bytes
first_short : (vs : List ℕ) → Words vs → length (decimal (get_or vs 0 0)) ≤ 20
first_short [] end = decimal-long 0 20 (omega arith) (omega arith)
first_short (v ∷ vs) (word h hs) = decimal-long v 20 (omega arith) (omega arith)

rest-words : (vs : List ℕ) → Words vs → Words (drop 1 vs)
rest-words [] end = end
rest-words (v ∷ vs) (word h hs) = hs

fill-short : (form vs : List ℕ) → Words vs → length (fill form vs) ≤ 20 * length form
unfolding fill
fill-short [] vs h = omega arith
fill-short (s ∷ form) vs h =
    let rest = fill-short form (drop 1 vs) (rest-words vs h) in
    let same = fill-short form vs h in
    split (is_number s)
    (λ e. rw (fill-number s form vs e, length-append) (omega (arith, first_short vs h)))
    (λ e. rw (fill-sign s form vs e) (omega arith))

-- a line with its LF
pub line-short : (form : List ℕ) {vs : List ℕ} → Words vs → length (fill form vs ++ lf) ≤ 20 * length form + 1
line-short form {vs} h = omega (arith, length-append (fill form vs) lf, fill-short form vs h)

-- ---- no pieces
pub none-short : (most : ℕ) {f g : ℕ → List ℕ} → Pieces f g → length (f 0) ≤ most * 0
none-short most p = omega (arith, ap length p.none)

-- ---- the pieces before i, each of at most `most` bytes, and one more
module _ (most : ℕ) {f g : ℕ → List ℕ} (p : Pieces f g) (i : ℕ) (h : length (f i) ≤ most * i) where
  piece-more : length (g i) ≤ most → length (f (i + 1)) ≤ most * (i + 1)
  piece-more l = rw (add-one i, mul-suc most i) (omega (arith, ap length (p.grow i), length-append (f i) (g i)))

  -- the piece is w
  pub piece-short : {w : List ℕ} → w ≡ g i → length w ≤ most → length (f (i + 1)) ≤ most * (i + 1)
  piece-short e l = piece-more (rw e at l)

  pub no-piece-short : g i ≡ [] → length (f (i + 1)) ≤ most * (i + 1)
  no-piece-short e = piece-more (rw e (omega arith))

-- ---- pieces of at most `most` bytes each
pub pieces-short : (most : ℕ) {f g : ℕ → List ℕ} → Pieces f g → (n : ℕ) → ((i : ℕ) → i < n → length (g i) ≤ most) → length (f n) ≤ most * n
pieces-short most p zero h = omega (arith, ap length p.none)
pieces-short most {f} {g} p (suc n) h =
    let ih = pieces-short most p n (λ i l. h i (omega arith)) in
    rw (mul-suc most n) (omega (arith, ap length (p.grow n), length-append (f n) (g n), ih, h n (omega arith)))
