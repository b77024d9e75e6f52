-- `first_that_fits` meets its contract. The invariant: the whole answer is that of the tasks left, after the trials made.
use Prim.Native.Nat.{◌≤◌, ◌*◌}
use Rattle.selection.proofs.RoundLaws.{LeftFor}
use Rattle.selection.proofs.trials.Trials.first_that_fits.Given as goal

abbrev pub invariant-loop-task : goal.invariant-loop-task
invariant-loop-task l = (l.trials ≤ 2 * l.task-index) × LeftFor l.self l.order l.task-index l.trials
