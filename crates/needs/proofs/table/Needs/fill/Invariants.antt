-- The tasks passed are right.
use Rattle.model.specs.Jobs.{instance_in, schedule_of}
use Rattle.needs.proofs.FillLaws.{RightBelow}
use Rattle.needs.proofs.table.Needs.fill.Given as goal

abbrev pub invariant-loop-i : goal.invariant-loop-i
invariant-loop-i l = RightBelow (instance_in l.links.job) (schedule_of l.links.job l.schedule) l.i l.self.tasks
