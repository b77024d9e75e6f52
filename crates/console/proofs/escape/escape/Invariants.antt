-- The text's first bytes are written, up to `at`.
use Rattle.console.proofs.EscapedLaws.{Escaping}
use Rattle.console.proofs.escape.escape.Given as goal

abbrev pub invariant-loop-b : goal.invariant-loop-b
invariant-loop-b l = Escaping l.text l.initial.out l.out l.at l.b-index
