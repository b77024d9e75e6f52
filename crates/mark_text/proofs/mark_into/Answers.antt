-- `mark_into` meets its contract: what is read is judged, what is not is refused.
use Rattle.text.proofs.DueLaws.{is-err}
use Rattle.model.specs.Jobs.{instance_in, schedule_of}
use Rattle.mark_text.proofs.PaperLaws.{paper-judged, paper-refused}
use Rattle.mark_text.proofs.mark_into.Goals as goal

pub returns-in_err-claim : goal.returns-in_err-claim
returns-in_err-claim c =
    rw (is-err _ c.from_residual.ensures.1)
    (paper-refused (instance_in c.args.job.now) c.args.paper.now _ c.read.result c.read.ensures.is_read c.in_err-claim.was)

pub returns : goal.returns
returns c =
    let j = c.args.job.now in
    paper-judged (instance_in j) c.args.paper.now (schedule_of j c.read.new.schedule) c.read.result c.read.ensures.is_read c.in_ok-claim.was c.judge.ensures
