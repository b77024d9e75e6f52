-- `early_at` meets its contract.
use lib.ListN.{length}
use Rattle.std.proofs.Common.{rules}
use Rattle.rules.specs.Simulation.{file_early}
use Rattle.model.specs.Jobs.{instance_in, schedule_in}
use Rattle.model.proofs.JobLaws.{files-in}
use Rattle.simulator.proofs.AnyLaws.{any-range}
use Rattle.simulator.proofs.FaultLaws.{early-is}
use Rattle.simulator.proofs.faults.early_at.Goals as goal

pub returns : goal.returns
returns c =
    let t = c.args.t.now in
    let r = c.any.ensures.runs in
    rw (← early-is (instance_in t.job) (schedule_in t) c.args.tick, files-in t.job)
    (any-range _ _ (length t.job.files.now) (file_early (instance_in t.job) (schedule_in t) c.args.tick) r.0 (search rules) (search rules) (search rules)
    (λ k b l e. search rules) c.any.result r.2)
