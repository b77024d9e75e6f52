-- The processors of a colour among the last finishes, and the one chosen.
use Prim.Native.Nat.{ℕ, ◌+◌, ◌≤◌, ◌<◌}
use mathlib.Core.Bool.{Bool, true, false, ◌&&◌}
use mathlib.Core.List.{List}
use mathlib.Core.Path.{◌≡◌, refl, ◌∙◌}
use native.Mathlib.Omega.{arith}
use lib.Dec.{leb, eqb}
use Rattle.std.specs.Prelude.{Option, None, Some, IsSome, MatchOption}
use Rattle.std.specs.Option.{unwrap_or}
use Rattle.rules.specs.Count.{max_where}
use Rattle.rules.specs.Limits.{processor_counts, all_processors}
use Rattle.rules.specs.Model as Rules
use Rattle.rules.specs.Model.{Instance, Schedule, side_of}
use Rattle.rules.specs.Scheduling.{Partial, slot_of, last_finish_on, free_by, latest_free, chosen_processor, processor_start}
use Rattle.rules.proofs.CountLaws.{max-cong, first-passed}
use Rattle.rules.proofs.StartLaws.{free-processor, processor_law}
use Rattle.model.specs.declared.colour.Colour.{Colour}
use Rattle.model.specs.declared.colour.Colour.TheVariants.{Blue, Red}
use Rattle.model.specs.Colours.{as_colour}
use Rattle.rules.specs.declared.Board.{Board}
use Rattle.model.specs.Layout.{count_in, OnBoard, Processors}
use Rattle.model.specs.Jobs.{partial_on}
use Rattle.model.proofs.LayoutLaws.{processors-on}
use Rattle.model.proofs.JobLaws.{last-finish-on}
use Rattle.placement.specs.Slots.{slot_in, last_in}

pub slot-exists : (b : Board) (x : Colour) (p : ℕ) → p < count_in b x → slot_in b x p < b.blue.processors + b.red.processors
slot-exists b Blue p h = omega arith
slot-exists b Red p h = omega arith

pub slot_at : {b : Board} {I : Instance} → OnBoard b I → (x : Colour) (p : ℕ) → slot_of I (as_colour x) p ≡ slot_in b x p
slot_at on Blue p = refl
slot_at on Red p = omega (arith, processors-on on Blue)

pub count_most : {b : Board} → Processors b → (x : Colour) → count_in b x ≤ processor_counts.most
count_most f Blue = f.blue.most
count_most f Red = f.red.most

-- a colour has a processor
count-some : {b : Board} → Processors b → (x : Colour) → 1 ≤ count_in b x
count-some f Blue = f.blue.least
count-some f Red = f.red.least

-- the slot, by the two cases of a colour
module _ {b : Board} (f : Processors b) (p : ℕ) where
  pub slot-blue : {x : Colour} → x ≡ Blue → p < count_in b x → (p ≡ slot_in b x p) × (p < all_processors)
  slot-blue {x} e h = rw e (refl, omega (arith, count_most f x, f.blue.most))

  pub slot-red : {x : Colour} → x ≡ Red → p < count_in b x → (b.blue.processors + p ≡ slot_in b x p) × (b.blue.processors + p < all_processors)
  slot-red {x} e h = rw e (refl, omega (arith, count_most f x, f.blue.most))

module _ (b : Board) (xs : List ℕ) (x : Colour) (s : ℕ) where
  -- whether the colour's processor p is free by the start
  abbrev pub free_in : ℕ → Bool
  free_in p = leb (last_in b xs x p) s

  abbrev pub latest_in : ℕ
  latest_in = max_where (count_in b x) free_in (last_in b xs x)

  -- whether it is, with the latest last finish of those that are
  abbrev pub latest_free_in : ℕ → Bool
  latest_free_in p = free_in p && eqb (last_in b xs x p) latest_in

  -- whatever the instance on the board, and the schedule
  module _ {I : Instance} (on : OnBoard b I) (P : Schedule) where
    abbrev Q : Partial
    Q = partial_on b P xs

    abbrev c : Rules.Colour
    c = as_colour x

    pub last-at : (p : ℕ) → p < count_in b x → last_finish_on I Q c p ≡ last_in b xs x p
    last-at p h = rw (slot_at on x p) (last-finish-on b P xs (slot_in b x p) (slot-exists b x p h))

    latest-at : max_where (side_of I c).processors (free_by I Q c s) (last_finish_on I Q c) ≡ latest_in
    latest-at = rw (processors-on on x) (max-cong (count_in b x) _ _ (λ p h. rw (last-at p h)))

    latest-free-at : (p : ℕ) → p < count_in b x → latest_free I Q c s p ≡ latest_free_in p
    latest-free-at p h = rw (latest-at, last-at p h)

    -- the first of these is the one chosen
    pub chosen-first : (p : ℕ) → p ≤ count_in b x → ((q : ℕ) → q < p → latest_free_in q ≡ false) → (p < count_in b x → latest_free_in p ≡ true)
        → p ≡ chosen_processor I Q c s
    unfolding chosen_processor
    chosen-first p l before here =
        let n : (side_of I c).processors ≡ count_in b x = processors-on on x in
        first-passed (side_of I c).processors (latest_free I Q c s) p (omega arith)
        (λ h. latest-free-at p (omega arith) ∙ here (omega arith)) (λ q h. latest-free-at q (omega arith) ∙ before q h)

    -- the code's answer to a search for it, where the rules have the colour's count for none
    pub chosen-found : (o : Option ℕ) {n latest : ℕ} → n ≡ count_in b x → latest ≡ latest_in
        → MatchOption o ((q : ℕ) → 0 ≤ q → q < n → (free_in q && eqb (last_in b xs x q) latest) ≡ false)
        (λ p. (0 ≤ p) × (p < n) × ((free_in p && eqb (last_in b xs x p) latest) ≡ true)
        × ((q : ℕ) → 0 ≤ q → q < p → (free_in q && eqb (last_in b xs x q) latest) ≡ false))
        → unwrap_or o (count_in b x) ≡ chosen_processor I Q c s
    chosen-found None e d h = chosen-first (count_in b x) (omega arith) (λ q l. rw d at (h q (omega arith) (omega arith))) (λ l. absurd (omega arith))
    chosen-found (Some p) e d h = chosen-first p (omega (arith, h.1)) (λ q l. rw d at (h.3 q (omega arith) l)) (λ l. rw d at (h.2))

    -- it exists, if the start is not before start 1
    pub chosen-exists : Processors b → processor_start I Q c ≤ s → {p : ℕ} → p ≡ chosen_processor I Q c s → p < count_in b x
    chosen-exists f free e =
        let n : (side_of I c).processors ≡ count_in b x = processors-on on x in
        let q = free-processor I Q c s (omega (arith, count-some f x)) free in
        omega (arith, (processor_law I Q c s q.0 q.1 q.2).0)

    -- so the code's answer is there, and is that one
    pub chosen-some : Processors b → processor_start I Q c ≤ s → (o : Option ℕ) → unwrap_or o (count_in b x) ≡ chosen_processor I Q c s → IsSome o
    chosen-some f free None e = absurd (omega (arith, chosen-exists f free e))
    chosen-some f free (Some p) e = refl

    pub chosen-is : {o : Option ℕ} {p : ℕ} → o ≡ Some p → unwrap_or o (count_in b x) ≡ chosen_processor I Q c s → p ≡ chosen_processor I Q c s
    chosen-is q e = rw q at e
