-- The steps passed are changed, the others are as they were.
use Rattle.std.proofs.Common.{◌≡◌, ◌++◌, map, take, drop}
use Rattle.staircase.specs.Steps.{with_change}
use Rattle.staircase.proofs.steps.change_all.Given as goal

abbrev pub invariant-loop-step : goal.invariant-loop-step
invariant-loop-step l = l.steps ≡ map (with_change l.amount l.rises) (take l.step-index l.initial.steps) ++ drop l.step-index l.initial.steps
