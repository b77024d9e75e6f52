-- Start 1 over the array of last finishes, starts 3 and 4, and all of them together.
use Rattle.model.specs.Jobs.{partial_on}
use Prim.Native.Nat.{ℕ, ◌+◌, ◌<◌, ◌≤◌, max, pred}
use mathlib.Core.List.{List}
use mathlib.Core.Option.{none, some}
use mathlib.Core.Path.{◌≡◌, sym, ◌∙◌, ap}
use native.Mathlib.Omega.{arith}
use lib.ListN.{get_or}
use Rattle.rules.specs.Count.{min_up_to}
use Rattle.rules.specs.Model.{Instance, work_at, Schedule}
use Rattle.rules.specs.Model as Model
use Rattle.rules.specs.Scheduling.{Partial, last_finish_on, processor_start}
use Rattle.rules.specs.Scheduling.{crossing_size, output_size, free_from, latest, delayed, memory_start, earliest_start}
use Rattle.rules.specs.Scheduling as Rules
use Rattle.rules.proofs.CountLaws.{min-cong, min-bound}
use Rattle.model.specs.declared.colour.Colour.{Colour}
use Rattle.model.specs.declared.colour.Colour.TheVariants.{Blue, Red}
use Rattle.model.specs.Colours.{as_colour, by_colour, own}
use Rattle.rules.specs.Limits.{max_files}
use Rattle.needs.specs.declared.table.Need.{Need}
use Rattle.needs.specs.Needs.{NeedBounds}
use Rattle.rules.specs.declared.Board.{Board}
use Rattle.model.specs.Layout.{count_in, OnBoard, Processors, LastBoundsOn, last_tick}
use Rattle.model.proofs.LayoutLaws.{processors-on}
use Rattle.model.proofs.JobLaws.{last-finish-on}
use Rattle.starts.specs.declared.memory.Memory.{Memory}
use Rattle.starts.specs.declared.memory.Memory.TheVariants.{Aware, Plain}
use Rattle.std.specs.Prelude.{Option, None, Some, IfSome}
use Rattle.staircase.specs.Steps.{as_option}
use Rattle.needs.specs.declared.demand.Demand.{Demand}
use Rattle.needs.specs.Demands.{DemandOf, DemandBounds}
use Rattle.starts.specs.Memories.{as_memory}

-- ---- starts 3 and 4

-- what is read of the table
pub asked-demand : {I : Instance} {P : Schedule} {i : ℕ} {c : Model.Colour} {d x : Demand} → d ≡ x → DemandOf I P i c x → DemandOf I P i c d
asked-demand e h = rw e h

pub demand-bounds : {n : ℕ} {d x : Demand} → d ≡ x → DemandBounds n x → DemandBounds n d
demand-bounds e h = rw e h

-- the bounds of the colour's own demand
pub own-bounds : (c : Colour) {x : Need} → NeedBounds x → DemandBounds max_files (own c x.demand)
own-bounds Blue b = b.blue
own-bounds Red b = b.red

-- a bound of what an option holds
pub bounded : {a : Option ℕ} {x m : ℕ} → a ≡ Some x → IfSome a (λ t. t ≤ m) → x ≤ m
bounded e h = rw e at h

module _ (I : Instance) (P : Schedule) (c : Model.Colour) (m : Memory) (i : ℕ) {d : Demand} (e : DemandOf I P i c d) where
  -- where they are asked for
  pub memory-aware : m ≡ Aware → (x y z : Option ℕ) {need room : ℕ} → room ≡ output_size I i + work_at I i → need ≡ d.incoming + room
      → as_option x ≡ free_from I P c need → as_option y ≡ free_from I P c d.incoming
      → as_option z ≡ latest (as_option x) (delayed (as_option y) d.longest) → as_option z ≡ memory_start (as_memory m) I P i c
  unfolding memory_start
  memory-aware q x y z {need} er en ex ey ez =
      let all : need ≡ crossing_size I P i c + output_size I i + work_at I i = omega (arith, e.incoming) in
      ez ∙ rw (q, ex, ey, all, e.incoming, e.longest)

  -- and where they are left out
  pub memory-plain : m ≡ Plain → some 0 ≡ memory_start (as_memory m) I P i c
  unfolding memory_start
  memory-plain w = rw w

-- ---- start 1

abbrev at : List ℕ → ℕ → ℕ → ℕ
at last first p = get_or last (first + p) 0

module _ {b : Board} (f : Processors b) (last : List ℕ) where
  -- whatever the instance on the board, and the schedule
  module _ {I : Instance} (on : OnBoard b I) (P : Schedule) where
    abbrev Q : Partial
    Q = partial_on b P last

    slot : (p q : ℕ) → q ≡ p → q < b.blue.processors + b.red.processors → get_or Q.last_finish q 0 ≡ get_or last p 0
    slot p q e l = last-finish-on b P last q l ∙ ap (λ p. get_or last p 0) e

    least-at : (c : Colour) → min_up_to (pred (count_in b c)) (last_finish_on I Q (as_colour c))
        ≡ min_up_to (pred (count_in b c)) (at last (by_colour c 0 b.blue.processors))
    least-at Blue = min-cong (pred b.blue.processors) _ _ (λ p l. slot (0 + p) p (omega arith) (omega (arith, f.blue.least)))
    least-at Red =
        let m = b.blue.processors in
        min-cong (pred b.red.processors) _ _
        (λ p l. slot (m + p) (I.blue_side.processors + p) (omega (arith, processors-on on Blue)) (omega (arith, processors-on on Blue, f.red.least)))

    least-finish : (c : Colour) → processor_start I Q (as_colour c)
        ≡ min_up_to (pred (count_in b c)) (at last (by_colour c 0 b.blue.processors))
    unfolding processor_start
    least-finish c = ap (λ n. min_up_to (pred n) (last_finish_on I Q (as_colour c))) (processors-on on c) ∙ least-at c

    pub least-total : (c : Colour) {first n i : ℕ} → first ≡ by_colour c 0 b.blue.processors → n ≡ count_in b c
        → i ≡ n → min_up_to (pred i) (at last first) ≡ processor_start I Q (as_colour c)
    least-total c x y z = rw (x, z, y, least-finish c)

  -- it is no later than the first of the colour's own last finishes
  pub least-bound : LastBoundsOn b last → (c : Colour) {first n : ℕ} → first ≡ by_colour c 0 b.blue.processors → n ≡ count_in b c
      → min_up_to (pred n) (at last first) ≤ last_tick
  least-bound h Blue {first} {n} x y = omega (arith, min-bound (pred n) (at last first) 0 (omega arith), h (first + 0) (omega (arith, f.blue.least)))
  least-bound h Red {first} {n} x y = omega (arith, min-bound (pred n) (at last first) 0 (omega arith), h (first + 0) (omega (arith, f.red.least)))

-- ---- the starts together

module _ (m : Rules.Memory) (I : Instance) (Q : Partial) (i : ℕ) (c : Model.Colour) {d : Demand} {one r : ℕ} (e : DemandOf I Q.schedule i c d)
    (e1 : one ≡ processor_start I Q c) (er : r ≡ max one d.arrival) (x : Option ℕ) (ex : as_option x ≡ memory_start m I Q.schedule i c) where
  pub earliest-none : x ≡ None → none ≡ earliest_start m I Q i c
  unfolding earliest_start
  earliest-none n = let q : memory_start m I Q.schedule i c ≡ none = sym ex ∙ rw n in rw q

  pub earliest-at : {s z : ℕ} → x ≡ Some s → z ≡ max r s → some z ≡ earliest_start m I Q i c
  unfolding earliest_start
  earliest-at {s} n ez = let q : memory_start m I Q.schedule i c ≡ some s = sym ex ∙ rw n in rw (q, ez, er, e1, e.arrival)
