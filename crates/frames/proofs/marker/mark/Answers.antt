-- `mark` meets its contract: the answer is the definition's, and so keeps the demands.
use mathlib.Core.Path.{sym, ap, ◌∙◌}
use Rattle.validator.specs.Answer.{as_verdict}
use Rattle.frames.proofs.SheetLaws.{exit-err}
use Rattle.frames.proofs.DemandLaws.{marker-demands}
use Rattle.frames.proofs.MarkLaws.{mark-accepted, marked_refused}
use Rattle.frames.proofs.marker.mark.Goals as goal

pub returns-in_err-job : goal.returns-in_err-job
returns-in_err-job c =
    let x = c.in_err-job.field-0.0 in
    let v = ap as_verdict (exit-err c.from_residual.result x c.from_residual.ensures.1)
    ∙ marked_refused c.args.sheet.now c.args.paper.now x c.in_err-job.ensures.answer in record {
      answer = v;
      marker_demands = marker-demands c.args.sheet.now c.args.paper.now v;
    }

pub returns : goal.returns
returns c =
    let v = c.mark_paper.ensures ∙ sym (mark-accepted c.args.sheet.now c.args.paper.now _ c.in_ok-job.ensures.answer) in record {
      answer = v;
      marker_demands = marker-demands c.args.sheet.now c.args.paper.now v;
    }
