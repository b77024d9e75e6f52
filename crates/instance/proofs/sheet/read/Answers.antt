-- `instance::sheet::read` meets its contract: the first line is the board's, and the lines behind it are read by `rest_of`.
use Rattle.std.proofs.Common.{rules, of_calls, ◌≡◌}
use Rattle.rules.specs.declared.refusal.Refusal.TheVariants.{Sheet}
use Rattle.rules.specs.InstanceText.{instance_line, with_board}
use Rattle.instance.specs.Steps.{board_alone}
use Rattle.text.proofs.DueLaws.{is-err, due-taken, due-refused}
use Rattle.instance.proofs.ReadLaws.{alone, sheet-long, sheet-refused, sheet-begun}
use Rattle.instance.proofs.sheet.read.Goals as goal

pub returns-then-sheet-gt-MAX_TEXT : goal.returns-then-sheet-gt-MAX_TEXT
returns-then-sheet-gt-MAX_TEXT c = sheet-long _ c.if-sheet-gt-MAX_TEXT.true

pub returns-in_err-step : goal.returns-in_err-step
returns-in_err-step c =
    let (w, k, d) = due-refused instance_line with_board board_alone c.args.sheet.now c.begin.result c.begin.ensures _ c.map_err.ensures.cases c.in_err-step.was in
    let q : c.in_err-step.field-0.0 ≡ Sheet w 1 = search (rules, of_calls) in
    rw (is-err _ c.from_residual.ensures.1, q)
    (sheet-refused _ c.if-sheet-gt-MAX_TEXT.false _ d)

pub returns : goal.returns
returns c =
    let t = due-taken instance_line with_board board_alone c.args.sheet.now c.begin.result c.begin.ensures _ c.map_err.ensures.cases c.in_ok-step.was in
    rw (sheet-begun _ c.if-sheet-gt-MAX_TEXT.false t, alone c.in_ok-step.step.value) (rw c.clear.ensures at c.rest_of.ensures)
