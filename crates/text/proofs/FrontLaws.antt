-- The elements at the front of a list that pass a test, as a loop finds them: the digits and the first line of a text.
use Prim.Native.Nat.{ℕ, ◌+◌, ◌≤◌, ◌<◌}
use mathlib.Core.Path.{◌≡◌, refl, ap, ◌∙◌}
use mathlib.Core.Bool.{Bool, true, false}
use mathlib.Core.List.{List, [], ◌∷◌, ◌++◌, append_assoc, append-nil}
use native.Mathlib.Nat.{add_comm}
use native.Mathlib.Numerals.{add-one}
use native.Mathlib.Omega.{arith}
use lib.ListN.{length, get_or, take, drop, length-drop}
use lib.Seq.{take-suc, take-add, drop-cons, drop-drop}
use Rattle.std.specs.List.{prefix_len}
use Rattle.rules.proofs.Tests.{split}
use Rattle.text.specs.FirstLine.{Passed}

-- f gives the elements at the front that pass the test p
pub record Front (p : ℕ → Bool) (f : List ℕ → List ℕ) : Type 0 where
  pub none : f [] ≡ []
  pub more : (x : ℕ) (l : List ℕ) → p x ≡ true → f (x ∷ l) ≡ x ∷ f l
  pub stop : (x : ℕ) (l : List ℕ) → p x ≡ false → f (x ∷ l) ≡ []

pub front-within : {p : ℕ → Bool} {f : List ℕ → List ℕ} (t : Front p f) (l : List ℕ) → length (f l) ≤ length l
front-within t [] = rw t.none (omega arith)
front-within {p} t (x ∷ l) =
    let ih = front-within t l in
    split (p x) (λ e. rw (t.more x l e) (omega arith)) (λ e. rw (t.stop x l e) (omega arith))

pub front-take : {p : ℕ → Bool} {f : List ℕ → List ℕ} (t : Front p f) (l : List ℕ) → f l ≡ take (prefix_len p l) l
front-take t [] = t.none
front-take {p} t (x ∷ l) =
    let ih = front-take t l in
    split (p x)
    (λ e. t.more x l e ∙ rw (e, ih, add_comm 1 (prefix_len p l), add-one))
    (λ e. t.stop x l e ∙ rw e)

-- ---- the first n elements of l pass
pub passed_none : (f : List ℕ → List ℕ) (l : List ℕ) → Passed f l 0
passed_none f l = record { within = omega arith; left = refl }

module _ {p : ℕ → Bool} {f : List ℕ → List ℕ} (t : Front p f) {l : List ℕ} {n : ℕ} (r : Passed f l n) where
  pub passed-more : n < length l → p (get_or l n 0) ≡ true → Passed f l (n + 1)
  passed-more h e =
      record {
        within = omega arith;
        left = r.left ∙ rw (drop-cons l n 0 h, t.more (get_or l n 0) _ e, add-one, take-suc l n 0 h, append_assoc);
      }

  pub passed-stop : n < length l → p (get_or l n 0) ≡ false → f l ≡ take n l
  passed-stop h e = r.left ∙ rw (drop-cons l n 0 h, t.stop (get_or l n 0) _ e, append-nil)

-- and m behind them
pub passed_on : {f : List ℕ → List ℕ} {l : List ℕ} {n m : ℕ} → Passed f l n → Passed f (drop n l) m → Passed f l (n + m)
passed_on {f} {l} {n} {m} r q =
    record {
      within = omega (arith, r.within, q.within, length-drop n l);
      left = r.left ∙ ap (λ (t : List ℕ). take n l ++ t) q.left ∙ rw (drop-drop m n l, take-add n m l, append_assoc);
    }
