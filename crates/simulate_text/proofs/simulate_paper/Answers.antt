-- `simulate_paper` meets its contract: what is read is walked through, what is not is refused.
use Rattle.text.proofs.DueLaws.{is-err}
use Rattle.model.specs.Layout.{entries_of}
use Rattle.model.specs.Jobs.{instance_in, schedule_by}
use Rattle.schedule.proofs.ReadLaws.{read-spellable, was_read}
use Rattle.simulate_text.proofs.PaperLaws.{paper-watched, paper-refused}
use Rattle.simulate_text.proofs.simulate_paper.Goals as goal

pub returns-in_err-_claim : goal.returns-in_err-_claim
returns-in_err-_claim c =
    let j = c.args.job.now in
    rw (is-err _ c.from_residual.ensures.1)
    (paper-refused (instance_in j) c.args.paper.now (schedule_by j (entries_of c.read.new.schedule)) c.read.result
    c.read.ensures.is_read c.args.made c.args.steps c.in_err-_claim.was)

pub returns : goal.returns
returns c =
    let j = c.args.job.now in
    let L = entries_of c.read.new.schedule in
    let I = instance_in j in
    let P = schedule_by j L in
    let w = was_read I c.args.paper.now P c.read.result c.read.ensures.is_read c.in_ok-_claim.was in
    paper-watched I c.args.paper.now P c.read.result c.read.ensures.is_read c.args.made c.args.steps c.requires c.in_ok-_claim.was
    (read-spellable j L _ c.args.paper.now w) c.wanted_steps.ensures c.watch.ensures
