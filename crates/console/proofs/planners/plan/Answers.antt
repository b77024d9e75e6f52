-- The buffer is long enough for the answer.
use Rattle.std.proofs.Common.{arith, rules}
use Rattle.console.proofs.LongEnoughLaws.{long-enough-plan}
use Rattle.console.proofs.planners.plan.Goals as goal

pub returns-clause-long_enough : goal.returns-clause-long_enough
returns-clause-long_enough c =
    long-enough-plan c.args.out.now _ c.plan.result.written (omega arith) (search rules) c.plan.ensures.planner_demands.call c.plan.ensures.planner_demands.roomy
