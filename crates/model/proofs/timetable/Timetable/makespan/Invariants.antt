-- `makespan` meets its contract. The invariant: the greatest finish of the tasks passed.
use Rattle.std.proofs.Common.{◌≡◌, ◌≤◌}
use Rattle.rules.specs.Count.{max_below}
use Rattle.rules.specs.Model.{finish_at}
use Rattle.model.specs.Jobs.{instance_in, schedule_in}
use Rattle.model.specs.Layout.{last_tick}
use Rattle.model.proofs.timetable.Timetable.makespan.Given as goal

abbrev pub invariant-loop-i : goal.invariant-loop-i
invariant-loop-i l = record { value : l.most ≡ max_below l.i (finish_at (instance_in l.self.job) (schedule_in l.self)); upper_bound : l.most ≤ last_tick }
