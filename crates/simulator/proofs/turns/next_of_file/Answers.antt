-- `next_of_file` meets its contract.
use Rattle.model.specs.Jobs.{instance_in, schedule_in}
use Rattle.simulator.proofs.TurnLaws.{file-turns}
use Rattle.simulator.proofs.turns.next_of_file.Goals as goal

pub returns : goal.returns
returns c =
    let t = c.args.t.now in
    rw c.sooner.ensures
    (file-turns (instance_in t.job) (schedule_in t) c.args.from c.hold_by-blue.result c.hold_by-red.result c.next_of_move-moving.result
    c.next_of_holds-held.result c.args.k c.hold_by-blue.ensures.result_value c.hold_by-red.ensures.result_value (c.next_of_move-moving.ensures (instance_in t.job) (schedule_in t) c.args.k c.file_times-times.ensures.times_of.transfer)
    c.next_of_holds-held.ensures)
