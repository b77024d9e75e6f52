-- `text::forms::line_by` meets its contract: the word, and what follows it.
use mathlib.Core.Path.{sym, ◌∙◌}
use Rattle.text.proofs.LineByLaws.{begins-same, word-no-line, behind-word, word-line}
use Rattle.text.proofs.forms.line_by.Goals as goal

pub returns-then-not-starts_with : goal.returns-then-not-starts_with
returns-then-not-starts_with c =
    word-no-line c.requires c.args.text.now (sym (begins-same c.args.word.now c.args.text.now) ∙ sym c.starts_with.ensures.value ∙ c.if-not-starts_with.true)

pub line_behind-requires-clause-start_passed : goal.line_behind-requires-clause-start_passed
line_behind-requires-clause-start_passed c =
    behind-word c.requires c.args.text.now (sym (begins-same c.args.word.now c.args.text.now) ∙ sym c.starts_with.ensures.value ∙ c.if-not-starts_with.false)

pub returns : goal.returns
returns c =
    rw (word-line c.requires c.args.text.now (sym (begins-same c.args.word.now c.args.text.now) ∙ sym c.starts_with.ensures.value ∙ c.if-not-starts_with.false))
    c.line_behind.ensures
