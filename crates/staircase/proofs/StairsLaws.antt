-- A memory's staircase by the hold rule, as it is kept.
use Prim.Native.Nat.{ℕ, zero, suc, ◌≤◌, ◌<◌}
use mathlib.Core.List.{List, [], ◌∷◌, ◌++◌}
use mathlib.Core.Path.{◌≡◌, sym, ◌∙◌, ap}
use native.Mathlib.Omega.{arith}
use lib.Dec.{eqb}
use lib.ListN.{length, length-append, get_or-append}
use lib.Seq.{get_or-append_seam}
use Rattle.rules.specs.Model.{Colour, Instance, Schedule, limit_of}
use Rattle.rules.specs.Residency.{horizon}
use Rattle.rules.specs.Scheduling.{aware, Partial, empty, free_from, assign}
use Rattle.rules.specs.Promises.{WellFormed, Trial}
use Rattle.rules.specs.Staircase.{Step, step_at, free_at, steps_up_to, stairs, free_from_steps, steps_after_all, grouped_changes, Placed}
use Rattle.rules.proofs.Tests.{split, by_order}
use Rattle.rules.proofs.StairsLaws.{stairs-are, stairs_read_law}
use Rattle.rules.proofs.StairsStartLaws.{stairs_start}
use Rattle.rules.proofs.GroupedLaws.{grouped-kept, grouped-room, grouped-steps, grouped-amounts}
use Rattle.staircase.specs.Steps.{start_steps}
use Rattle.staircase.specs.Stairs.{HoldsStairs, Pending, Made}

-- ---- no step is later than the last tick looked at

step-more : (xs : List Step) (s : Step) (m k : ℕ) → ((j : ℕ) → j < length xs → (step_at xs j).tick ≤ m) → s.tick ≤ m → k < length (xs ++ s ∷ [])
    → (step_at (xs ++ s ∷ []) k).tick ≤ m
step-more xs s m k h l b = by_order k (length xs)
    (λ q. rw (get_or-append xs (s ∷ []) _ k q) (h k q))
    (λ q. let e : k ≡ length xs = omega (arith, length-append xs (s ∷ [])) in rw (e, get_or-append_seam xs s [] _) l)

steps-within : (f : ℕ → ℕ) (m k : ℕ) → k < length (steps_up_to f m) → (step_at (steps_up_to f m) k).tick ≤ m
unfolding steps_up_to
steps-within f zero zero l = omega arith
steps-within f zero (suc k) l = absurd (omega arith)
steps-within f (suc m) k l = split (eqb (f m) (f (suc m)))
    (λ e. rw e (omega (arith, steps-within f m k (rw e at l))))
    (λ e. rw e (step-more (steps_up_to f m) (record { tick = suc m; free = f (suc m) }) (suc m) k (λ j b. omega (arith, steps-within f m j b)) (omega arith)
    (rw e at l)))

-- ---- what is known of steps that are a memory's staircase

free-under : (I : Instance) (P : Schedule) (c : Colour) (t : ℕ) → free_at I P c t ≤ limit_of I c
unfolding free_at
free-under I P c t = omega arith

module _ {I : Instance} {P : Schedule} {c : Colour} {ss : List Step} (H : HoldsStairs I P c ss) where
  pub holds-ticks : (k : ℕ) → k < length ss → (step_at ss k).tick ≤ horizon I P c
  unfolding stairs
  holds-ticks k l = rw H.steps (steps-within (free_at I P c) (horizon I P c) k (omega (arith, ap length H.steps)))

-- starts 3 and 4 are read from it
pub holds_read : {I : Instance} {Q : Partial} {c : Colour} {ss : List Step} → WellFormed I → Placed I Q → HoldsStairs I Q.schedule c ss → (need : ℕ)
    → free_from_steps ss need ≡ free_from I Q.schedule c need
holds_read {I} {Q} {c} W p H need = ap (λ xs. free_from_steps xs need) H.steps ∙ stairs_read_law I W Q p c need

-- with nothing placed
pub holds-start : {I : Instance} → WellFormed I → (c : Colour) (ss : List Step) → ss ≡ start_steps (limit_of I c) → HoldsStairs I (empty I).schedule c ss
holds-start {I} W c ss e = record { steps = e ∙ sym (stairs_start I W c) }

-- ---- a placing

module _ (I : Instance) (W : WellFormed I) (Q : Partial) (p : Placed I Q) (i : ℕ) (c : Colour) (s : ℕ) (A : Trial aware I Q i c s) (d : Colour)
    {ss : List Step} (H : HoldsStairs I Q.schedule d ss) where
  -- there is room for its changes
  pub pending-placing : Pending (grouped_changes I Q.schedule i c s d) ss
  pending-placing = record {
    free = free_at I Q.schedule d;
    staircase = rw H.steps (stairs-are I Q.schedule d);
    slots = omega (arith, grouped-steps I W Q p i c s A d, ap length H.steps);
    room = grouped-room I W Q p i c s A d;
    most = λ t. omega (arith, grouped-amounts I W Q p i c s A d, free-under I Q.schedule d t, (W.limits d).most);
  }

  -- and with them made it is the staircase of what is placed then
  pub holds-placed : {ss' : List Step} → Made (grouped_changes I Q.schedule i c s d) ss ss' → HoldsStairs I (assign I Q i c s).schedule d ss'
  holds-placed m = record { steps = m.steps ∙ ap (steps_after_all (grouped_changes I Q.schedule i c s d)) H.steps ∙ grouped-kept I W Q p i c s A d }
