-- The code's planner and outcome, as the rules have them.
use Rattle.std.specs.Prelude.{ℕ, ◌≤◌, ◌<◌, List, ◌≡◌, map, length, IfOk, Result, Ok, Err}
use Rattle.rules.specs.Model.{Instance, Schedule}
use Rattle.rules.specs.Validity.{true_claim}
use Rattle.rules.specs.Scheduling as Rules
use Rattle.rules.specs.Staircase.{Step, step_at}
use Rattle.model.specs.declared.claim.Claim.{Claim}
use Rattle.model.specs.Claims.{as_claim}
use Rattle.starts.specs.Memories.{as_memory}
use Rattle.planner.specs.declared.Rule.{Rule}
use Rattle.planner.specs.declared.Rule.TheVariants.{Heft, MinMin}
use Rattle.planner.specs.declared.Outcome.{Outcome}
use Rattle.planner.specs.declared.Stuck.{Stuck}

abbrev pub as_planner : Rule → Rules.Planner
as_planner (Heft m) = Rules.heft (as_memory m)
as_planner (MinMin m) = Rules.min_min (as_memory m)

-- an outcome beside the schedule that was made
abbrev pub ended : Result Claim Stuck → ℕ → Schedule → Rules.Outcome
ended (Ok claim) trials P = Rules.complete P trials
ended (Err stuck) trials P = Rules.stuck stuck.placed trials

abbrev pub as_outcome : Outcome → Schedule → Rules.Outcome
as_outcome r P = ended r.claim r.trials P

-- a complete outcome claims what is true of the schedule
abbrev pub Claims : Instance → Schedule → Outcome → Type 0
Claims I P r = IfOk r.claim (λ claim. as_claim claim ≡ true_claim I P)

-- the amounts of the steps, without their ticks
abbrev pub amounts : List Step → List ℕ
amounts xs = map (λ (s : Step). s.free) xs

-- at least one step, the first with no more free than the limit
pub record FreeWithin (limit : ℕ) (steps : List Step) : Type 0 where
  pub one : 0 < length steps
  pub first : (step_at steps 0).free ≤ limit
