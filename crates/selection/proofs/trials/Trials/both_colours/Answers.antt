-- `both_colours` meets its contract.
use Prim.Native.Nat.{◌<◌}
use native.Mathlib.Omega.{arith}
use Rattle.rules.specs.Model.{task_count}
use Rattle.model.specs.Jobs.{instance_in}
use Rattle.model.proofs.JobLaws.{tasks-in}
use Rattle.starts.specs.Memories.{as_memory}
use Rattle.selection.proofs.ChoiceLaws.{both_at, on-blue, on-red}
use Rattle.selection.proofs.trials.Trials.both_colours.Goals as goal

pub returns-clause-result_value : goal.returns-clause-result_value
returns-clause-result_value c = λ Q T r.
    let x = c.args.self.now in
    let I = instance_in x.job in
    let i = c.args.task in
    let h : i < task_count I = omega (arith, tasks-in x.job, c.requires) in
    let b = c.earliest_start-on_blue.ensures.result_value I Q i (on-blue T.kept T.idle h r c.of-need.ensures.value) in
    let d = c.earliest_start-on_red.ensures.result_value I Q i (on-red T.kept T.idle h r c.of-need.ensures.value) in
    both_at (as_memory x.memory) I Q i c.earliest_start-on_blue.result c.earliest_start-on_red.result c.tried-first.result c.tried-second.result
    c.earlier.result b d c.tried-first.ensures.result_value c.tried-second.ensures.result_value c.earlier.ensures.result_value
