-- `first_overlapping` meets its contract.
use Rattle.model.specs.Jobs.{instance_in, schedule_in}
use Rattle.model.proofs.JobLaws.{tasks-in}
use Rattle.validator.proofs.Loops.{overlap-total}
use Rattle.validator.proofs.exclusion.first_overlapping.Goals as goal

pub returns-clause-lowest : goal.returns-clause-lowest
returns-clause-lowest c =
    let t = c.args.t.now in
    overlap-total (instance_in t.job) (schedule_in t) (tasks-in t.job) c.all_runs-all.result.items c.first_overlap.result
    c.all_runs-all.ensures.records c.all_runs-all.ensures.count (rw c.as_slice.ensures.value at c.first_overlap.ensures.lowest)
