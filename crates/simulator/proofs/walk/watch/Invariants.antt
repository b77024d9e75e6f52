-- `watch` meets its contract. The invariant: so many steps are made, no fault is met, and `time` is the tick of the last.
use Rattle.std.proofs.Common.{◌≤◌, ◌-◌}
use Rattle.model.specs.Jobs.{instance_in, schedule_in}
use Rattle.simulator.proofs.StepLaws.{Reached}
use Rattle.simulator.proofs.walk.watch.Given as goal

abbrev pub invariant-loop-tick : goal.invariant-loop-tick
invariant-loop-tick l = record {
  reached : Reached (instance_in l.t.job) (schedule_in l.t) l.made l.from l.time;
  wanted : l.made ≤ l.wanted;
}

abbrev pub decreases-loop-tick : goal.decreases-loop-tick
decreases-loop-tick l = l.wanted - l.made
