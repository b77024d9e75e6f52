-- `overlapping_tasks` meets its contract.
use Rattle.model.specs.Jobs.{instance_in, schedule_in}
use Rattle.simulator.proofs.FaultLaws.{same-task, two-tasks}
use Rattle.simulator.proofs.faults.overlapping_tasks.Goals as goal

pub returns-then-i-j : goal.returns-then-i-j
returns-then-i-j c = same-task (instance_in c.args.t.now.job) (schedule_in c.args.t.now) c.args.i c.args.j c.if-i-j.true

pub returns : goal.returns
returns c =
    two-tasks (instance_in c.args.t.now.job) (schedule_in c.args.t.now) c.args.i c.args.j c.if-i-j.false c.run_of-one.ensures c.run_of-other.ensures
    c.overlapping_runs.ensures
