-- `running_at` meets its contract: the closure answers what a processor runs.
use Rattle.std.proofs.Common.{suc, add-one, rules}
use Rattle.rules.specs.Limits.{all_processors}
use Rattle.rules.specs.Simulation.{running_on}
use Rattle.model.specs.Jobs.{instance_in, schedule_in}
use Rattle.simulator.proofs.StateLaws.{array-is, running-is}
use Rattle.simulator.proofs.state.running_at.Goals as goal

pub returns : goal.returns
returns c =
    let t = c.args.t.now in
    let runs = running_on (instance_in t.job) (schedule_in t) c.args.tick in
    running-is (instance_in t.job) (schedule_in t) c.args.tick c.from_fn.result
    (array-is _ _ (λ p. runs (suc p)) (λ k y q e. search (rules, add-one)) c.from_fn.result all_processors c.from_fn.ensures.items)
