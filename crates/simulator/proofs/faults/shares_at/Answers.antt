-- `shares_at` meets its contract.
use lib.ListN.{length}
use Rattle.std.proofs.Common.{rules}
use Rattle.model.specs.Jobs.{instance_in, schedule_in}
use Rattle.model.proofs.JobLaws.{tasks-in}
use Rattle.simulator.specs.Faults.{starts_overlapping}
use Rattle.simulator.proofs.AnyLaws.{any-range}
use Rattle.simulator.proofs.FaultLaws.{shares-is}
use Rattle.simulator.proofs.faults.shares_at.Goals as goal

pub returns : goal.returns
returns c =
    let t = c.args.t.now in
    let r = c.any.ensures.runs in
    rw (← shares-is (instance_in t.job) (schedule_in t) c.args.tick, tasks-in t.job)
    (any-range _ _ (length t.job.tasks.now) (starts_overlapping (instance_in t.job) (schedule_in t) c.args.tick) r.0 (search rules) (search rules) (search rules)
    (λ k b l e. search rules) c.any.result r.2)
