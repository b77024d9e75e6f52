-- Lists by index.
use Prim.Native.Nat.{ℕ, zero, suc, ◌+◌}
use mathlib.Core.List.{List, [], ◌∷◌, ◌++◌}
use mathlib.Core.Path.{◌≡◌, ◌∙◌}
use native.Mathlib.Nat.{add-suc}
use native.Mathlib.Omega.{arith}
use native.Mathlib.Numerals.{add-one}
use lib.ListN.{length, get_or, drop, drop_of_length-le}
use lib.Seq.{take_all, drop-append-le}
use Rattle.rules.specs.Count.{list_below}
use Rattle.rules.proofs.CountLaws.{length-list_below, list-take}

-- a list by index, with one element more
pub list-more : {A : Type 0} (n : ℕ) (f : ℕ → A) {xs ys : List A} {a : A} → ys ≡ xs ++ (a ∷ []) → xs ≡ list_below n f → a ≡ f n → ys ≡ list_below (n + 1) f
unfolding list_below
list-more n f p q e = rw (add-one n, p, q, e)

-- a list by all its indices
pub list-whole : {A : Type 0} (n : ℕ) (xs : List A) (d : A) → length xs ≡ n → list_below n (λ i. get_or xs i d) ≡ xs
list-whole n xs d e = list-take n xs d (omega arith) ∙ take_all n xs (omega arith)

-- a list by index without its first m elements
pub list-drop : {A : Type 0} (m n : ℕ) (f : ℕ → A) → drop m (list_below (m + n) f) ≡ list_below n (λ i. f (m + i))
unfolding list_below
list-drop m zero f = drop_of_length-le (list_below (m + 0) f) {i = m} (omega (arith, length-list_below (m + 0) f))
list-drop m (suc n) f =
    rw (add-suc m n, drop-append-le m (list_below (m + n) f) (f (m + n) ∷ []) (omega (arith, length-list_below (m + n) f)), list-drop m n f)
