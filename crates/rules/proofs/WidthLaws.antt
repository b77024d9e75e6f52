-- Wider numbers: a form reads a line by the former widths as by the widths now, or the line has a number too long for them.
use Prim.Native.Nat.{ℕ, zero, suc, ◌^◌, ◌<◌}
use mathlib.Core.Path.{◌≡◌, refl, sym, ◌∙◌}
use mathlib.Core.Bool.{true}
use mathlib.Core.List.{List, [], ◌∷◌}
use mathlib.Core.Option.{Option, none, some}
use mathlib.Core.Logic.{◌⊎◌, inl, inr}
use native.Mathlib.Omega.{arith}
use lib.ListN.{length, get_or}
use Rattle.rules.specs.Limits.{max_digits, former}
use Rattle.rules.specs.Text.{ended, decimal, scan_by, scan, fill}
use Rattle.rules.specs.FinerTicks.{OneOf, LongNumber}
use Rattle.rules.proofs.Tests.{by_order}
use Rattle.rules.proofs.NumeralLaws.{decimal-long, decimal-longer}
use Rattle.rules.proofs.FormLaws.{numbers, good, Numerals, scan-fill, scan-only, none-some}

abbrev pub former_digits : ℕ
former_digits = former.digits

-- ---- numbers of at most so many digits

numerals-wider : (vs : List ℕ) → Numerals former_digits vs → Numerals max_digits vs
numerals-wider [] h = tt
numerals-wider (v ∷ vs) h = (omega (arith, h.0), numerals-wider vs h.1)

pub numerals-at : (d : ℕ) (vs : List ℕ) → Numerals d vs → 0 < 10 ^ d → (j : ℕ) → get_or vs j 0 < 10 ^ d
numerals-at d [] h p j = p
numerals-at d (v ∷ vs) h p zero = h.0
numerals-at d (v ∷ vs) h p (suc j) = numerals-at d vs h.1 p j

-- each has at most d digits, or one has more
numerals-or : (d : ℕ) (vs : List ℕ) → Numerals d vs ⊎ ((j : ℕ) × (d < length (decimal (get_or vs j 0))))
numerals-or d [] = inl tt
numerals-or d (v ∷ vs) = by_order v (10 ^ d)
    (λ l. elim (numerals-or d vs) [
      | inl n ↦ inl (l, n)
      | inr n ↦ inr (suc n.0, n.1)
    ])
    (λ l. inr (0, decimal-longer d v l))

-- ---- one form

-- a line read by the former widths is read now, with the same numbers
reads_on : (form l vs : List ℕ) → good form ≡ true → scan_by former_digits form l ≡ some vs → scan form l ≡ some vs
reads_on form l vs g e =
    let f = scan-only former_digits (omega arith) form l vs e in
    rw f.line (scan-fill max_digits (omega arith) form vs g f.count (numerals-wider vs f.numerals))

data Widened (form l : List ℕ) : Type 0 where
  alike : scan_by former_digits form l ≡ scan form l → Widened form l
  longer : scan_by former_digits form l ≡ none → LongNumber form (ended l) → Widened form l

module _ (form l : List ℕ) (g : good form ≡ true) where
  not-read : (vs : List ℕ) → scan form l ≡ some vs → (j : ℕ) → former_digits < length (decimal (get_or vs j 0)) → scan_by former_digits form l ≡ none
  not-read vs e j h = go (scan_by former_digits form l) refl
    where
      go : (o : Option (List ℕ)) → scan_by former_digits form l ≡ o → scan_by former_digits form l ≡ none
      go none q = q
      go (some ws) q =
          let x : ws ≡ vs = cc (reads_on form l ws g q) in
          let f = scan-only former_digits (omega arith) form l ws q in
          let b : get_or vs j 0 < 10 ^ former_digits = rw x at (numerals-at former_digits ws f.numerals (omega arith) j) in
          absurd (omega (arith, decimal-long (get_or vs j 0) former_digits (omega arith) b))

  widened : Widened form l
  widened = now (scan form l) refl
    where
      then : scan form l ≡ none → (o : Option (List ℕ)) → scan_by former_digits form l ≡ o → Widened form l
      then e none q = alike (q ∙ sym e)
      then e (some ws) q = none-some (sym e ∙ reads_on form l ws g q)

      now : (o : Option (List ℕ)) → scan form l ≡ o → Widened form l
      now none e = then e (scan_by former_digits form l) refl
      now (some vs) e =
          let f = scan-only max_digits (omega arith) form l vs e in
          elim (numerals-or former_digits vs) [
            | inl n ↦
                let x : scan_by former_digits form l ≡ some vs = rw f.line (scan-fill former_digits (omega arith) form vs g f.count n) in
                alike (x ∙ sym e)
            | inr n ↦
                longer (not-read vs e n.0 n.1)
                (record { bytes = l; is_ended = refl; numbers = vs; has_form = e; which = n.0; long = n.1 })
          ]

-- ---- forms of which a line has at most one

-- no line has both forms
abbrev pub Exclusive : List ℕ → List ℕ → Type 0
Exclusive f g = (l vs ws : List ℕ) → scan f l ≡ some vs → scan g l ≡ some ws → ⊥

-- as where the one, filled in, is not read by the other
pub exclusive : (f g : List ℕ) → ((vs : List ℕ) → length vs ≡ numbers f → Numerals max_digits vs → scan g (fill f vs) ≡ none) → Exclusive f g
exclusive f g h l vs ws e q =
    let x = scan-only max_digits (omega arith) f l vs e in
    none-some (sym (h vs x.count x.numerals) ∙ rw x.line at q)

pub reversed : (f g : List ℕ) → Exclusive f g → Exclusive g f
reversed f g x l vs ws e q = x l ws vs q e

abbrev pub GoodForms : List (List ℕ) → Type 0
GoodForms [] = Unit {0}
GoodForms (f ∷ fs) = (good f ≡ true) × GoodForms fs

-- the first of some forms excludes each of these
abbrev pub Excludes : List ℕ → List (List ℕ) → Type 0
Excludes f [] = Unit {0}
Excludes f (g ∷ gs) = Exclusive f g × Excludes f gs

abbrev pub Exclusives : List (List ℕ) → Type 0
Exclusives [] = Unit {0}
Exclusives (f ∷ fs) = Excludes f fs × Exclusives fs

-- each form reads a line by the former widths as it does now
abbrev pub Alike : List ℕ → List (List ℕ) → Type 0
Alike l [] = Unit {0}
Alike l (f ∷ fs) = (scan_by former_digits f l ≡ scan f l) × Alike l fs

-- none reads it, with numbers of at most d digits
abbrev pub Unread : ℕ → List ℕ → List (List ℕ) → Type 0
Unread d l [] = Unit {0}
Unread d l (f ∷ fs) = (scan_by d f l ≡ none) × Unread d l fs

-- what the former widths read of a line by some forms: what is read now; or nothing, and one of them has a number too long
pub data Agree (fs : List (List ℕ)) (l : List ℕ) : Type 0 where
  agree : Alike l fs → Agree fs l
  too_long : Unread former_digits l fs → (form : List ℕ) → OneOf fs form → LongNumber form (ended l) → Agree fs l

module _ (l : List ℕ) where
  -- a form that excludes one that the line has now
  no_other : (f g : List ℕ) → good f ≡ true → Exclusive f g → LongNumber g (ended l) → scan_by former_digits f l ≡ none
  no_other f g good-f x y = go (scan_by former_digits f l) refl
    where
      go : (o : Option (List ℕ)) → scan_by former_digits f l ≡ o → scan_by former_digits f l ≡ none
      go none q = q
      go (some ws) q =
          let e : y.bytes ≡ l = cc y.is_ended in
          absurd (x l ws y.numbers (reads_on f l ws good-f q) (rw e at y.has_form))

  unread : (f : List ℕ) (gs : List (List ℕ)) → GoodForms gs → Excludes f gs → LongNumber f (ended l) → Unread former_digits l gs
  unread f [] g x y = tt
  unread f (h ∷ hs) g x y = (no_other h f g.0 (reversed f h x.0) y, unread f hs g.1 x.1 y)

  excluded : (f : List ℕ) (gs : List (List ℕ)) (form : List ℕ) → Excludes f gs → OneOf gs form → Exclusive f form
  excluded f [] form x o = absurd o
  excluded f (h ∷ hs) form x (inl e) = rw e x.0
  excluded f (h ∷ hs) form x (inr o) = excluded f hs form x.1 o

  pub agreed : (fs : List (List ℕ)) → GoodForms fs → Exclusives fs → Agree fs l
  agreed [] g x = agree tt
  agreed (f ∷ fs) g x = elim (widened f l g.0) [
    | longer n y ↦ too_long (n, unread f fs g.1 x.0 y) f (inl refl) y
    | alike a ↦ elim (agreed fs g.1 x.1) [
      | agree bs ↦ agree (a, bs)
      | too_long ns form o y ↦ too_long (no_other f form g.0 (excluded f fs form x.0 o) y, ns) form (inr o) y
    ]
  ]
