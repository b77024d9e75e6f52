-- `number_of` meets its contract: digits are ASCII, and so a text that can be parsed.
use Rattle.std.proofs.Common.{arith, sym, ◌∙◌}
use Rattle.std.proofs.lemmas.Grind.{common_steps}
use Rattle.std.proofs.lemmas.Str.{IsUtf8-from_ascii}
use Rattle.framewatch.proofs.DecimalLaws.{digits-ascii, number-none, number-is}
use Rattle.framewatch.proofs.number.number_of.Goals as goal

pub returns-then-not-all_digits : goal.returns-then-not-all_digits
returns-then-not-all_digits c = number-none c.args.text.now (sym c.all_digits.ensures ∙ c.if-not-all_digits.true)

pub returns-in-Err : goal.returns-in-Err
returns-in-Err c =
    absurd (c.in-Err.ensures.cases.0 (IsUtf8-from_ascii c.args.text.now (digits-ascii c.args.text.now (sym c.all_digits.ensures ∙ c.if-not-all_digits.false))))

pub returns-in-Ok : goal.returns-in-Ok
returns-in-Ok c =
    let e = number-is c.args.text.now (sym c.all_digits.ensures ∙ c.if-not-all_digits.false) c.parse.result (rw c.in-Ok.ensures.cases.0 at c.parse.ensures.value.0) in
    grind (arith, common_steps)
