-- `contents_at` meets its contract: the closure answers where a file is held.
use Rattle.std.proofs.Common.{rules}
use Rattle.rules.specs.Limits.{max_files}
use Rattle.rules.specs.Simulation.{held_in}
use Rattle.model.specs.Jobs.{instance_in, schedule_in}
use Rattle.simulator.proofs.StateLaws.{array-is, contents-is}
use Rattle.simulator.proofs.state.contents_at.Goals as goal

pub returns : goal.returns
returns c =
    let t = c.args.t.now in
    contents-is (instance_in t.job) (schedule_in t) c.args.tick c.from_fn.result
    (array-is _ _ (held_in (instance_in t.job) (schedule_in t) c.args.tick) (λ k y q e. search rules) c.from_fn.result max_files c.from_fn.ensures.items)
