-- Changes listed one behind another: those of a hold, then those of every residency.
use Rattle.std.proofs.Common.{ℕ, ◌+◌, ◌≡◌, ◌∙◌, refl, sym, ap, List, [], ◌∷◌, ◌++◌, append_assoc, add-one, arith}
use mathlib.Core.List.{append-nil}
use Rattle.rules.specs.Count.{list_below}
use Rattle.rules.specs.Residency.{Hold}
use Rattle.rules.specs.Changes.{Residency, changes_by, changes_in}
use Rattle.changes.specs.Listed.{listed, Pushed, Listing}

-- ---- the changes of residencies

changes-append : (xs ys : List Residency) → changes_in (xs ++ ys) ≡ changes_in xs ++ changes_in ys
unfolding changes_in
changes-append [] ys = refl
changes-append (x ∷ xs) ys =
    ap (λ l. changes_by x.hold x.size ++ l) (changes-append xs ys) ∙ sym (append_assoc (changes_by x.hold x.size) (changes_in xs) (changes_in ys))

changes-one : (x : Residency) → changes_in (x ∷ []) ≡ changes_by x.hold x.size
unfolding changes_in
changes-one x = append-nil (changes_by x.hold x.size)

pub listing_none : (xs : List ℕ) (g : ℕ → Residency) → Listing xs g 0 xs
unfolding list_below changes_in
listing_none xs g = record { more = omega arith; changes = sym (append-nil (listed xs)) }

pub listing-next : {xs ys zs : List ℕ} (g : ℕ → Residency) (k : ℕ) {h : Hold} {size : ℕ} → Listing xs g k ys → h ≡ (g k).hold → size ≡ (g k).size
    → Pushed ys h size zs → Listing xs g (k + 1) zs
unfolding list_below
listing-next {xs} g k {h} {size} l a b p =
    let more : changes_in (list_below k g ++ g k ∷ []) ≡ changes_in (list_below k g) ++ changes_by h size =
    changes-append (list_below k g) (g k ∷ []) ∙ ap (λ c. changes_in (list_below k g) ++ c) (changes-one (g k) ∙ rw (a, b)) in
    rw (add-one k) (record {
      more = omega (arith, l.more, p.more);
      changes = p.changes ∙ ap (λ c. c ++ changes_by h size) l.changes ∙ append_assoc (listed xs) (changes_in (list_below k g)) (changes_by h size)
          ∙ ap (λ c. listed xs ++ c) (sym more);
    })

-- two kinds, one behind the other
pub listing-both : {ys zs : List ℕ} (f g : ℕ → Residency) (i j : ℕ) → Listing [] f i ys → Listing ys g j zs
    → listed zs ≡ changes_in (list_below i f ++ list_below j g)
listing-both f g i j a b = b.changes ∙ ap (λ c. c ++ changes_in (list_below j g)) a.changes ∙ sym (changes-append (list_below i f) (list_below j g))
