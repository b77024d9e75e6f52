-- What is kept beside a complete schedule says what it has to claim.
use Prim.Native.Nat.{ℕ, ◌+◌, ◌-◌, ◌≤◌, ◌<◌, pred}
use mathlib.Core.List.{List}
use mathlib.Core.Path.{◌≡◌, sym, ap, ◌∙◌}
use native.Mathlib.Omega.{arith}
use lib.ListN.{length, get_or, get_or-map}
use Rattle.std.proofs.lemmas.List.{length-map}
use Rattle.rules.specs.Count.{max_below, min_up_to}
use Rattle.rules.specs.Model.{blue, red, Instance, Schedule, limit_of, processor_count}
use Rattle.rules.specs.Model.{Colour as RulesColour}
use Rattle.rules.specs.Promises.{WellFormed}
use Rattle.rules.specs.Scheduling.{Partial}
use Rattle.rules.specs.Staircase.{Step, step_at, StandsOn, free_at, least_free, stairs}
use Rattle.rules.specs.Validity.{Complete, makespan, peak, true_claim}
use Rattle.rules.specs.declared.Board.{Board}
use Rattle.rules.proofs.CountLaws.{max-cong, min-cong, min-bound}
use Rattle.rules.proofs.StairsLaws.{stairs_law}
use Rattle.rules.proofs.StairsClaimLaws.{stairs_peak, last_span}
use Rattle.model.specs.declared.claim.Claim.{Claim}
use Rattle.model.specs.declared.colour.Colour.TheVariants.{Blue, Red}
use Rattle.model.specs.Claims.{as_claim}
use Rattle.model.specs.Layout.{OnBoard}
use Rattle.model.specs.Jobs.{partial_on}
use Rattle.model.proofs.LayoutLaws.{processors-on, limit-on}
use Rattle.model.proofs.JobLaws.{last-finish-on}
use Rattle.model.specs.declared.colour.ByColour.{ByColour}
use Rattle.staircase.specs.Stairs.{HoldsStairs}
use Rattle.needs.specs.declared.table.Needs.{Needs}
use Rattle.starts.specs.Kept.{Kept}
use Rattle.planner.specs.Outcomes.{amounts}

-- the least amount is no more than the first
pub least_under : (ss : List Step) → least_free ss ≤ (step_at ss 0).free
unfolding least_free
least_under ss = min-bound (pred (length ss)) (λ k. (step_at ss k).free) 0 (omega arith)

-- it is the least of the amounts, whatever the ticks
least-amounts : (ss : List Step) → least_free ss ≡ min_up_to (pred (length (amounts ss))) (λ k. get_or (amounts ss) k 0)
unfolding least_free
least-amounts ss =
    let free = λ (s : Step). s.free in
    rw (length-map ss free) (min-cong (pred (length ss)) _ _ (λ k l. sym (get_or-map free ss k _)))

pub least-same : (ss ts : List Step) → amounts ss ≡ amounts ts → least_free ss ≡ least_free ts
least-same ss ts e =
    least-amounts ss ∙ ap (λ fs. min_up_to (pred (length fs)) (λ k. get_or fs k 0)) e ∙ sym (least-amounts ts)

-- the last finishes of a schedule, from the array
pub latest-last : {b : Board} {I : Instance} → OnBoard b I → (P : Schedule) (last : List ℕ) {n : ℕ} → n ≡ b.blue.processors + b.red.processors
    → max_below n (λ p. get_or last p 0) ≡ max_below (processor_count I) (λ p. get_or (partial_on b P last).last_finish p 0)
latest-last {b} {I} on P last e =
    let count : processor_count I ≡ b.blue.processors + b.red.processors = omega (arith, processors-on on Blue, processors-on on Red) in
    rw (e, count) (max-cong _ _ _ (λ p l. sym (last-finish-on b P last p l)))

-- the two sides of a claim
claims-are : (I : Instance) (Q : Partial) {c : Claim} → c.span ≡ makespan I Q.schedule → c.blue_peak ≡ peak I Q.schedule blue
    → c.red_peak ≡ peak I Q.schedule red → as_claim c ≡ true_claim I Q.schedule
unfolding true_claim
claims-are I Q p q r = rw (p, q, r)

-- a limit is the greatest amount free, and what is free first is no more
pub free-first : {I : Instance} {P : Schedule} {c : RulesColour} {ss : List Step} → WellFormed I → HoldsStairs I P c ss → (step_at ss 0).free ≤ limit_of I c
unfolding free_at
free-first {I} {P} {c} {ss} W H =
    let l = stairs_law I W P c in
    let t : ℕ = (step_at (stairs I P c) 0).tick in
    let st : StandsOn (stairs I P c) t 0 =
    record { exists = l.0.one; begun = omega arith; goes_on = λ m. l.0.ascending 0 m } in
    rw H.steps (omega (arith, l.0.level t 0 st))

pub holds-one : {I : Instance} {P : Schedule} {c : RulesColour} {ss : List Step} → WellFormed I → HoldsStairs I P c ss → 0 < length ss
holds-one {I} {P} {c} W H = rw H.steps (stairs_law I W P c).0.one

module _ {b : Board} {I : Instance} (on : OnBoard b I) (P : Schedule) (last : List ℕ) {table : Needs} {kept : ByColour (List Step)}
    (K : Kept I (partial_on b P last) table kept) (done : Complete I P) (c : Claim) where
  abbrev Q : Partial
  Q = partial_on b P last

  -- the peaks from any steps with the amounts of those that are kept
  pub claim-true : (ss ts : List Step) → amounts kept.blue ≡ amounts ss → amounts kept.red ≡ amounts ts
      → c.span ≡ max_below (processor_count I) (λ p. get_or Q.last_finish p 0)
      → c.blue_peak ≡ b.blue.limit - least_free ss → c.red_peak ≡ b.red.limit - least_free ts
      → as_claim c ≡ true_claim I P
  claim-true ss ts d e p q r = claims-are I Q {c = c}
      (p ∙ sym (last_span I K.well_formed Q K.placed done))
      (q ∙ rw (← least-same kept.blue ss d, K.blue.steps, ← limit-on on Blue) (sym (stairs_peak I K.well_formed Q K.placed done blue)))
      (r ∙ rw (← least-same kept.red ts e, K.red.steps, ← limit-on on Red) (sym (stairs_peak I K.well_formed Q K.placed done red)))
