-- `peak` meets its contract.
use native.Mathlib.Omega.{arith}
use Rattle.staircase.specs.Steps.{as_steps}
use Rattle.planner.proofs.ClaimLaws.{least_under}
use Rattle.planner.proofs.claim.peak.Goals as goal

pub overflow_sub-result : goal.overflow_sub-result
overflow_sub-result c = omega (arith, c.least.ensures, least_under (as_steps c.args.steps.now), c.requires.first)
