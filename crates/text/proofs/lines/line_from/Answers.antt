use mathlib.Core.Path.{sym, ◌∙◌}
use native.Mathlib.Omega.{arith}
use Rattle.text.proofs.LineAtLaws.{skipping-none, skipping-more, skipping-end}
use Rattle.text.proofs.lines.line_from.Goals as goal

pub returns-then-rest-len : goal.returns-then-rest-len
returns-then-rest-len c =
    sym (skipping-none _ c.first_line-len.ensures _ c.loop-k.invariant (omega arith) c.if-rest-len.true)

pub loop-k-preserved : goal.loop-k-preserved
loop-k-preserved c =
    skipping-more _ c.first_line-len.ensures _ c.loop-k.invariant (omega arith) c.if-rest-len.false _ (omega arith)

pub returns : goal.returns
returns c = c.first_line.ensures ∙ sym (skipping-end _ c.loop-k.invariant (omega arith))
