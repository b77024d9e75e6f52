-- `answer_after` meets its contract.
use Rattle.model.specs.Jobs.{instance_in, schedule_in}
use Rattle.simulator.specs.Answers.{as_progress}
use Rattle.simulator.proofs.StepLaws.{stepped}
use Rattle.simulator.proofs.walk.answer_after.Goals as goal

pub returns : goal.returns
returns c =
    let t = c.args.t.now in
    stepped (instance_in t.job) (schedule_in t) (as_progress c.args.progress) c.args.time c.args.made c.if-made-eq0.false c.running_at.ensures c.contents_at.ensures
