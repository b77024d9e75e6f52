-- `walk_memories` meets its contract.
use mathlib.Core.Path.{◌∙◌, ap}
use Rattle.model.specs.Jobs.{instance_in, schedule_in}
use Rattle.model.specs.declared.colour.Colour.TheVariants.{Blue, Red}
use Rattle.model.proofs.JobLaws.{limit-in}
use Rattle.changes.specs.Totals.{over_of}
use Rattle.validator.proofs.MemoryLaws.{sooner-is, by-changes}
use Rattle.validator.proofs.memory.walk_memories.Goals as goal

pub returns : goal.returns
returns c =
    let t = c.args.t.now in
    by-changes (instance_in t.job) (schedule_in t) c.totals_of-blue.ensures c.totals_of-red.ensures (limit-in t.job Blue) (limit-in t.job Red)
    (ap over_of c.sooner.ensures ∙ sooner-is c.totals_of-blue.result.over c.totals_of-red.result.over)
