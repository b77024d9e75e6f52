-- `next_of_task` meets its contract.
use Rattle.model.specs.Jobs.{instance_in, schedule_in}
use Rattle.simulator.proofs.TurnLaws.{task-turns}
use Rattle.simulator.proofs.turns.next_of_task.Goals as goal

pub returns : goal.returns
returns c =
    let t = c.args.t.now in
    rw c.sooner.ensures
    (task-turns (instance_in t.job) (schedule_in t) c.args.from c.work_hold-blue.result c.work_hold-red.result c.next_of_run-running.result
    c.next_of_holds-working.result c.args.i c.work_hold-blue.ensures.result_value c.work_hold-red.ensures.result_value c.next_of_run-running.ensures
    c.next_of_holds-working.ensures)
