-- `schedule::lines::next_line` meets its contract: the line by the form that it has.
use mathlib.Core.Path.{◌∙◌}
use Rattle.text.proofs.DueLaws.{is-err}
use Rattle.rules.specs.ScheduleText.{run_form, move_form, claim_form}
use Rattle.model.specs.Jobs.{instance_in}
use Rattle.schedule.proofs.LineLaws.{cut-right, cut-wrong, run-says, move-says, claim-says, no-form}
use Rattle.schedule.proofs.lines.next_line.Goals as goal

pub returns-in_err-value : goal.returns-in_err-value
returns-in_err-value c =
    let I = instance_in c.args.job.now in
    let r = c.in-Some.ensures in
    rw (is-err _ c.from_residual.ensures.1) (cut-wrong I move_form _ r _ (c.in_err-value.ensures ∙ move-says I _ r))

pub returns-in-Some : goal.returns-in-Some
returns-in-Some c =
    let I = instance_in c.args.job.now in
    let r = c.in-Some.ensures in
    let w = c.with.ensures in
    rw (w.0, w.1) (cut-right I move_form _ r _ (c.in_ok-value.ensures ∙ move-says I _ r))

pub returns-in_err-value-2 : goal.returns-in_err-value-2
returns-in_err-value-2 c =
    let I = instance_in c.args.job.now in
    let r = c.in-Some-line_by.ensures in
    rw (is-err _ c.from_residual-in_err-value-2.ensures.1) (cut-wrong I run_form _ r _ (c.in_err-value-2.ensures ∙ run-says I _ r))

pub returns-in-Some-line_by : goal.returns-in-Some-line_by
returns-in-Some-line_by c =
    let I = instance_in c.args.job.now in
    let r = c.in-Some-line_by.ensures in
    let w = c.with-in-Some-line_by.ensures in
    rw (w.0, w.1) (cut-right I run_form _ r _ (c.in_ok-value-2.ensures ∙ run-says I _ r))

pub returns-in_default-line_by-2 : goal.returns-in_default-line_by-2
returns-in_default-line_by-2 c =
    no-form (instance_in c.args.job.now) _ c.in_default-line_by.ensures c.in_default.ensures c.in_default-line_by-2.ensures

pub returns-in_err-value-3 : goal.returns-in_err-value-3
returns-in_err-value-3 c =
    let I = instance_in c.args.job.now in
    let r = c.in-Some-line_by-2.ensures in
    rw (is-err _ c.from_residual-in_err-value-3.ensures.1) (cut-wrong I claim_form _ r _ (c.in_err-value-3.ensures ∙ claim-says I _ r))

pub returns : goal.returns
returns c =
    let I = instance_in c.args.job.now in
    let r = c.in-Some-line_by-2.ensures in
    let w = c.with-2.ensures in
    rw (w.0, w.1) (cut-right I claim_form _ r _ (c.in_ok-value-3.ensures ∙ claim-says I _ r))
