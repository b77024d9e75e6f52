-- `has_work` meets its contract.
use lib.ListN.{length}
use Rattle.std.proofs.Common.{ltb, rules}
use Rattle.rules.specs.Model.{work_at}
use Rattle.model.specs.Jobs.{instance_in}
use Rattle.simulator.proofs.AnyLaws.{any-range}
use Rattle.framewatch.proofs.trace.has_work.Goals as goal

pub returns : goal.returns
returns c =
    let j = c.args.job.now in
    let r = c.any.ensures.runs in
    any-range _ _ (length j.tasks.now) (λ i. ltb 0 (work_at (instance_in j) i)) r.0 (search rules) (search rules) (search rules) (λ k b l e. search rules) c.any.result r.2
