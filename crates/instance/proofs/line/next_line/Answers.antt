-- `instance::line::next_line` meets its contract: the line by the form that it has.
use mathlib.Core.Path.{◌∙◌}
use Rattle.text.proofs.DueLaws.{is-err}
use Rattle.rules.specs.InstanceText.{board_form, task_form, work_form, file_form}
use Rattle.instance.proofs.ParseLaws.{cut-right, cut-wrong, file-says, task-says, work-says, board-says, no-form}
use Rattle.instance.proofs.line.next_line.Goals as goal

pub returns-in_err-value : goal.returns-in_err-value
returns-in_err-value c =
    rw (is-err _ c.from_residual.ensures.1) (cut-wrong file_form _ c.in-Some.ensures _ (c.in_err-value.ensures ∙ file-says _ c.in-Some.ensures))

pub returns-in-Some : goal.returns-in-Some
returns-in-Some c =
    let w = c.with.ensures in
    rw (w.0, w.1) (cut-right file_form _ c.in-Some.ensures _ (c.in_ok-value.ensures ∙ file-says _ c.in-Some.ensures))

pub returns-in_err-value-2 : goal.returns-in_err-value-2
returns-in_err-value-2 c =
    let r = c.in-Some-line_by.ensures in
    rw (is-err _ c.from_residual-in_err-value-2.ensures.1) (cut-wrong task_form _ r _ (c.in_err-value-2.ensures ∙ task-says _ r))

pub returns-in-Some-line_by : goal.returns-in-Some-line_by
returns-in-Some-line_by c =
    let r = c.in-Some-line_by.ensures in
    let w = c.with-in-Some-line_by.ensures in
    rw (w.0, w.1) (cut-right task_form _ r _ (c.in_ok-value-2.ensures ∙ task-says _ r))

pub returns-in_err-value-3 : goal.returns-in_err-value-3
returns-in_err-value-3 c =
    let r = c.in-Some-line_by-2.ensures in
    rw (is-err _ c.from_residual-in_err-value-3.ensures.1) (cut-wrong work_form _ r _ (c.in_err-value-3.ensures ∙ work-says _ c.in_default-line_by.ensures r))

pub returns-in-Some-line_by-2 : goal.returns-in-Some-line_by-2
returns-in-Some-line_by-2 c =
    let r = c.in-Some-line_by-2.ensures in
    let w = c.with-in-Some-line_by-2.ensures in
    rw (w.0, w.1) (cut-right work_form _ r _ (c.in_ok-value-3.ensures ∙ work-says _ c.in_default-line_by.ensures r))

pub returns-in_default-line_by-3 : goal.returns-in_default-line_by-3
returns-in_default-line_by-3 c =
    no-form _ c.in_default.ensures c.in_default-line_by.ensures c.in_default-line_by-2.ensures c.in_default-line_by-3.ensures

pub returns-in_err-value-4 : goal.returns-in_err-value-4
returns-in_err-value-4 c =
    let r = c.in-Some-line_by-3.ensures in
    rw (is-err _ c.from_residual-in_err-value-4.ensures.1) (cut-wrong board_form _ r _ (c.in_err-value-4.ensures ∙ board-says _ r))

pub returns : goal.returns
returns c =
    let r = c.in-Some-line_by-3.ensures in
    let w = c.with-2.ensures in
    rw (w.0, w.1) (cut-right board_form _ r _ (c.in_ok-value-4.ensures ∙ board-says _ r))
