-- `overlaps_begun` meets its contract.
use lib.ListN.{length}
use Rattle.std.proofs.Common.{rules}
use Rattle.model.specs.Jobs.{instance_in, schedule_in}
use Rattle.model.proofs.JobLaws.{tasks-in}
use Rattle.simulator.specs.Faults.{begun_overlaps}
use Rattle.simulator.proofs.AnyLaws.{any-range}
use Rattle.simulator.proofs.faults.overlaps_begun.Goals as goal

pub returns : goal.returns
returns c =
    let t = c.args.t.now in
    let r = c.any.ensures.runs in
    rw (tasks-in t.job)
    (any-range _ _ (length t.job.tasks.now) (begun_overlaps (instance_in t.job) (schedule_in t) c.args.tick c.args.i) r.0 (search rules) (search rules) (search rules)
    (λ k b l e. search rules) c.any.result r.2)
