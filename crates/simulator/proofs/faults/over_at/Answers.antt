-- `over_at` meets its contract.
use Rattle.model.specs.declared.colour.Colour.TheVariants.{Blue, Red}
use Rattle.model.specs.Jobs.{instance_in, schedule_in}
use Rattle.model.proofs.JobLaws.{limit-in}
use Rattle.simulator.proofs.FaultLaws.{over_yes, over-rest}
use Rattle.simulator.proofs.faults.over_at.Goals as goal

pub returns-then-board-held : goal.returns-then-board-held
returns-then-board-held c =
    let t = c.args.t.now in
    over_yes (instance_in t.job) (schedule_in t) c.args.tick (limit-in t.job Blue) c.totals_at-held.ensures.in_blue c.if-board-held.true

pub returns-else-board-held : goal.returns-else-board-held
returns-else-board-held c =
    let t = c.args.t.now in
    over-rest (instance_in t.job) (schedule_in t) c.args.tick (limit-in t.job Blue) c.totals_at-held.ensures.in_blue c.if-board-held.false (limit-in t.job Red)
    c.totals_at-held.ensures.in_red
