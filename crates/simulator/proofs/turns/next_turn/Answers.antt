-- `next_turn` meets its contract.
use Rattle.model.specs.Jobs.{instance_in, schedule_in}
use Rattle.simulator.proofs.TurnLaws.{all-turns}
use Rattle.simulator.proofs.turns.next_turn.Goals as goal

pub returns : goal.returns
returns c =
    let t = c.args.t.now in
    rw c.sooner.ensures
    (all-turns (instance_in t.job) (schedule_in t) c.args.from c.next_of_tasks.result c.next_of_files.result c.next_of_tasks.ensures c.next_of_files.ensures)
