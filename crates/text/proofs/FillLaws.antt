-- The loop that lays a form down in a sink: what is done, and what is left of the form and the numbers.
use Prim.Native.Nat.{ℕ, suc, ◌+◌, ◌≤◌, ◌<◌}
use mathlib.Core.Path.{◌≡◌, refl, sym, ap, ◌∙◌}
use mathlib.Core.List.{List, [], ◌∷◌, ◌++◌, append_assoc, append-nil}
use native.Mathlib.Nat.{add-zero}
use native.Mathlib.Omega.{arith}
use native.Mathlib.Numerals.{add-one}
use borrow.Author.Tests.{eq-eqb, ne_eqb}
use lib.ListN.{length, get_or, drop, drop_of_length-le}
use lib.Seq.{drop-cons, drop-drop, get_or-drop}
use Rattle.rules.specs.Text.{decimal, fill}
use Rattle.rules.proofs.FormLaws.{fill-number, fill-sign}
use Rattle.text.specs.Laid.{Lawful}

-- ---- the next sign of a form
module _ (form vs : List ℕ) (i k : ℕ) (h : i < length form) where
  fill-at-number : get_or form i 0 ≡ 35 → fill (drop i form) (drop k vs) ≡ decimal (get_or vs k 0) ++ fill (drop (i + 1) form) (drop (k + 1) vs)
  fill-at-number s =
      rw (
        drop-cons form i 0 h,
        fill-number (get_or form i 0) (drop (suc i) form) (drop k vs)
            (eq-eqb _ _ s),
        get_or-drop k vs 0 0,
        drop-drop 1 k vs,
        add-zero,
        add-one i,
      )

  fill-at-sign : (get_or form i 0 ≡ 35 → ⊥) → fill (drop i form) (drop k vs) ≡ get_or form i 0 ∷ fill (drop (i + 1) form) (drop k vs)
  fill-at-sign s = rw (drop-cons form i 0 h, fill-sign (get_or form i 0) (drop (suc i) form) (drop k vs) (ne_eqb _ _ s), add-one i)

-- ---- of a sink s, `done` is laid down, and t is left
pub record Laying {T : Type 0} (laid : T → List ℕ → T → Type 0) (form vs : List ℕ) (s t : T) (i k : ℕ) : Type 0 where
  pub done : List ℕ
  pub down : laid s done t
  pub behind : k ≤ i
  pub whole : done ++ fill (drop i form) (drop k vs) ≡ fill form vs

module _ {T : Type 0} {room : T → List ℕ → Type 0} {laid : T → List ℕ → T → Type 0} (L : Lawful room laid) {form vs : List ℕ} {s : T}
    (space : room s (fill form vs)) where
  pub laying-start : Laying laid form vs s s 0 0
  laying-start = record { done = []; down = L.none s (L.front s [] (fill form vs) space); behind = omega arith; whole = refl }

  module _ {t : T} {i k : ℕ} (r : Laying laid form vs s t i k) where
    -- the next piece is w
    module _ (w rest : List ℕ) (e : fill (drop i form) (drop k vs) ≡ w ++ rest) where
      next-whole : (r.done ++ w) ++ rest ≡ fill form vs
      next-whole = append_assoc r.done w rest ∙ ap (λ (x : List ℕ). r.done ++ x) (sym e) ∙ r.whole

      next-room : room t w
      next-room = L.left s t r.done w (L.front s (r.done ++ w) rest (rw next-whole space)) r.down

      next-laid : (u : T) → laid t w u → laid s (r.done ++ w) u
      next-laid u m = L.more s t u r.done w r.down m

    module _ (h : i < length form) where
      module _ (g : get_or form i 0 ≡ 35) {v : ℕ} (e : v ≡ get_or vs k 0) where
        next-number : fill (drop i form) (drop k vs) ≡ decimal v ++ fill (drop (i + 1) form) (drop (k + 1) vs)
        next-number = rw e (fill-at-number form vs i k h g)

        pub number-room : room t (decimal v)
        number-room = next-room (decimal v) _ next-number

        pub number-laid : {u : T} → laid t (decimal v) u → Laying laid form vs s u (i + 1) (k + 1)
        number-laid {u} m =
            record {
              done = r.done ++ decimal v;
              down = next-laid (decimal v) _ next-number u m;
              behind = omega (arith, r.behind);
              whole = next-whole (decimal v) _ next-number;
            }

      module _ (g : get_or form i 0 ≡ 35 → ⊥) where
        pub sign-room : room t (get_or form i 0 ∷ [])
        sign-room = next-room (get_or form i 0 ∷ []) _ (fill-at-sign form vs i k h g)

        pub sign-laid : {u : T} → laid t (get_or form i 0 ∷ []) u → Laying laid form vs s u (i + 1) k
        sign-laid {u} m =
            record {
              done = r.done ++ (get_or form i 0 ∷ []);
              down = next-laid (get_or form i 0 ∷ []) _ (fill-at-sign form vs i k h g) u m;
              behind = omega (arith, r.behind);
              whole = next-whole (get_or form i 0 ∷ []) _ (fill-at-sign form vs i k h g);
            }

    pub laying-end : length form ≤ i → laid s (fill form vs) t
    unfolding fill
    laying-end h =
        let e : r.done ++ [] ≡ fill form vs = rw (drop_of_length-le form h) at r.whole in
        rw (sym (append-nil r.done) ∙ e) at r.down
