-- `text::forms::line_behind` meets its contract: what the text holds is the numbers found and what is left to read.
use Rattle.text.proofs.LineByLaws.{Scanning}
use Rattle.text.proofs.forms.line_behind.Given as goal

abbrev pub invariant-loop-sign : goal.invariant-loop-sign
invariant-loop-sign l = Scanning l.form l.text l.start l.numbers l.at l.count l.sign-index
