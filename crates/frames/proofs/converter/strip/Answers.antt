-- `strip` meets its contract: the answer and the buffer are the definition's, and so keep the demands.
use mathlib.Core.Path.{sym, ap, ◌∙◌}
use Rattle.rules.proofs.StripLaws.{strip-accepted}
use Rattle.convert_text.specs.Answers.{as_output}
use Rattle.frames.proofs.SheetLaws.{exit-err}
use Rattle.frames.proofs.ConversionDemandLaws.{stripper-demands, unstripped}
use Rattle.frames.proofs.converter.strip.Goals as goal

pub returns-in_err-job : goal.returns-in_err-job
returns-in_err-job c =
    let old = c.args.out.now in
    let x = c.in_err-job.field-0.0 in
    let e = ap (λ r. as_output r old) (exit-err c.from_residual.result x c.from_residual.ensures.1)
    ∙ unstripped c.args.sheet.now c.args.paper.now old x c.in_err-job.ensures.answer in record {
      answer = e;
      stripper_demands = stripper-demands c.args.sheet.now c.args.paper.now old e;
    }

pub returns : goal.returns
returns c =
    let sheet = c.args.sheet.now in
    let e = c.strip_paper.ensures ∙ sym (strip-accepted sheet c.args.paper.now c.args.out.now _ c.in_ok-job.ensures.answer) in record {
      answer = e;
      stripper_demands = stripper-demands sheet c.args.paper.now c.args.out.now e;
    }
