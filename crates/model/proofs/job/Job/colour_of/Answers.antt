-- `colour_of` meets its contract, by the two cases of the processor.
use Rattle.std.proofs.Common.{◌∙◌}
use Rattle.model.specs.Layout.{entries_of}
use Rattle.model.proofs.LayoutLaws.{colour-blue, colour-red}
use Rattle.model.proofs.JobLaws.{colour-in}
use Rattle.model.proofs.job.Job.colour_of.Goals as goal

pub returns-then-processor-self : goal.returns-then-processor-self
returns-then-processor-self c =
    let a = c.args in
    colour-blue a.self.now.board (entries_of a.schedule.now) c.processor.ensures c.if-processor-self.true
    ∙ colour-in a.self.now (entries_of a.schedule.now) a.i c.requires

pub returns-else-processor-self : goal.returns-else-processor-self
returns-else-processor-self c =
    let a = c.args in
    colour-red a.self.now.board (entries_of a.schedule.now) c.processor.ensures c.if-processor-self.false
    ∙ colour-in a.self.now (entries_of a.schedule.now) a.i c.requires
