-- Order 1 in words: release_law, inputs_law, together_law; relay_inside, inside_refused.
use Prim.Native.Nat.{ℕ, suc, ◌≤◌, ◌<◌}
use mathlib.Core.Bool.{true, false, not}
use mathlib.Core.Path.{◌≡◌, refl, sym, ap, subst}
use mathlib.Core.Logic.{◌↔◌}
use native.Mathlib.Omega.{arith}
use borrow.Author.Tests.{ltb-true, le-leb, lt-ltb}
use Rattle.rules.specs.Model.{Colour, blue, red, same_colour, Instance, task_count, file_count, file_at, Run, is_placed, Schedule, run_at, start_at, move_at}
use Rattle.rules.specs.Model.{colour_of, release_at, maker_run, reader_run}
use Rattle.rules.specs.Residency.{during, open_hold, closed_hold, covers, is_held}
use Rattle.rules.specs.Validity.{Claim, OnTime, overlaps, Verdict, refused_by}
use Rattle.rules.specs.Promises.{WellFormed}
use Rattle.rules.specs.RelayExact.{ReleaseLaw, InputsLaw, HeldAtStart, TogetherLaw, RelayInside, InsideRefused}
use Rattle.rules.proofs.Tests.{split, clash}
use Rattle.rules.proofs.HoldLaws.{hold-open, hold-closed}
use Rattle.rules.proofs.JudgeLaws.{Judged, by15, by16, by17, by18, by0, judged}
use Rattle.rules.proofs.ValidLaws.{overlaps-exact}

-- ---- inputs

pub release_law : ReleaseLaw
release_law I i r = ((λ e. omega arith), (λ l. omega arith))

-- a hold that has begun covers a tick exactly if it ends later
covers-begun : (a b t : ℕ) → a ≤ t → (covers (during a b) t ≡ true) ↔ (t < b)
covers-begun a b t l = ((λ e. ltb-true t b (rw (le-leb a t l) at e)), (λ m. rw (le-leb a t l) (lt-ltb t b m)))

-- a file with both its tasks placed, its maker's colour m and its reader's c: when its reader's memory holds it,
reader-covers : (m c : Colour) (b v e r t : ℕ) → (not (same_colour m c) ≡ false → b ≤ t) → (not (same_colour m c) ≡ true → v ≤ t)
    → (covers (closed_hold (not (same_colour m c)) (same_colour m c) b v e r) t ≡ true) ↔ (t < r)
reader-covers blue blue b v e r t x y = covers-begun b r t (x refl)
reader-covers red red b v e r t x y = covers-begun b r t (x refl)
reader-covers blue red b v e r t x y = covers-begun v r t (y refl)
reader-covers red blue b v e r t x y = covers-begun v r t (y refl)

-- that its maker's does,
maker-covers : (m c : Colour) (b v e r t : ℕ) → b ≤ t → (not (same_colour m c) ≡ false → t < r) → (not (same_colour m c) ≡ true → t < e)
    → covers (closed_hold (not (same_colour m c)) (same_colour m m) b v e r) t ≡ true
maker-covers blue blue b v e r t l x y = (covers-begun b r t l).1 (x refl)
maker-covers red red b v e r t l x y = (covers-begun b r t l).1 (x refl)
maker-covers blue red b v e r t l x y = (covers-begun b e t l).1 (y refl)
maker-covers red blue b v e r t l x y = (covers-begun b e t l).1 (y refl)

-- and that it does while its reader is not placed
open-covers : (m : Colour) (b t : ℕ) → b ≤ t → covers (open_hold (same_colour m m) b) t ≡ true
open-covers blue b t l = le-leb b t l
open-covers red b t l = le-leb b t l

module _ (I : Instance) (P : Schedule) (k : ℕ) (p : is_placed (maker_run I P k) ≡ true) where
  abbrev maker : Run
  maker = maker_run I P k

  abbrev reader : Run
  reader = reader_run I P k

  for-reader : is_placed reader ≡ true → OnTime I P k → (t : ℕ) → reader.start ≤ t
      → (is_held I P (colour_of I reader) t k ≡ true) ↔ (t < release_at I P (file_at I k).reader)
  for-reader q o t l =
      rw (hold-closed I (file_at I k) maker reader (move_at P k) (colour_of I reader) p q)
      (reader-covers (colour_of I maker) (colour_of I reader) _ _ _ _ t (λ m. omega (arith, o.unmoved m)) (λ m. omega (arith, o.arrived m)))

  for-maker : WellFormed I → k < file_count I → (is_placed reader ≡ true → OnTime I P k) → is_held I P (colour_of I maker) maker.start k ≡ true
  for-maker W l o = split (is_placed reader)
      (λ q. rw (hold-closed I (file_at I k) maker reader (move_at P k) (colour_of I maker) p q)
      (maker-covers (colour_of I maker) (colour_of I reader) _ _ _ _ _ (omega arith) (λ m. omega (arith, (o q).unmoved m))
      (λ m. omega (arith, (o q).made m, (W.move_times k l).least))))
      (λ q. rw (hold-open I (file_at I k) maker reader (move_at P k) (colour_of I maker) p q) (open-covers (colour_of I maker) _ _ (omega arith)))

pub inputs_law : InputsLaw
inputs_law I P k p q o t l = for-reader I P k p q o t l

pub together_law : TogetherLaw
together_law I W P i p = record {
  inputs = λ k l e m o.
      subst (λ j. is_placed (run_at P j) ≡ true → HeldAtStart I P j k) e (λ q. (for-reader I P k m q o _ (omega arith)).1 (omega arith)) p;
  outputs = λ k l e o. subst (λ j. is_placed (run_at P j) ≡ true → HeldAtStart I P j k) e (λ q. for-maker I P k q W l o) p;
}

-- ---- a relay beside another run

pub relay_inside : RelayInside
relay_inside I P i j e = (
  ((λ x. (omega (arith, x.second), omega (arith, x.first))), (λ h. record { first = omega (arith, h.1); second = omega (arith, h.0) })),
  ((λ x. (omega (arith, x.first), omega (arith, x.second))), (λ h. record { first = omega (arith, h.0); second = omega (arith, h.1) })),
)

module _ (I : Instance) (P : Schedule) (claim : Claim) (i j : ℕ) (li : i < task_count I) (lj : j < task_count I) where
  named : {v : Verdict} → Judged I P claim v → overlaps I P i ≡ true → overlaps I P j ≡ true → (n : ℕ) × (v ≡ refused_by 15 (suc n)) × (n ≤ i) × (n ≤ j)
  named (by15 n f) x y = (n, refl, f.least i (li, x), f.least j (lj, y))
  named (by16 k a f) x y = clash x (a i li)
  named (by17 t a b f) x y = clash x (a i li)
  named (by18 a b d z) x y = clash x (a i li)
  named (by0 p) x y = clash x (p.apart i li)

pub inside_refused : InsideRefused
inside_refused I P claim i j li lj p e h =
    let d : i ≡ j → ⊥ = λ q. absurd (omega (arith, ap (start_at P) q, h.0)) in
    let x = relay_inside I P i j e in
    named I P claim i j li lj (judged I P claim)
    ((overlaps-exact I P i li).1 (record { exists = li; other = j; other_exists = lj; differs = d; processor = p; shares = x.0.1 h }))
    ((overlaps-exact I P j lj).1 (record {
      exists = lj;
      other = i;
      other_exists = li;
      differs = λ q. d (sym q);
      processor = sym p;
      shares = x.1.1 h;
    }))
