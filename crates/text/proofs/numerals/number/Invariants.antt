-- `text::numerals::number` meets its contract: the digits met are summed up, at most `MAX_DIGITS` of them.
use Rattle.text.proofs.ReadNumeralLaws.{Summing}
use Rattle.text.proofs.numerals.number.Given as goal

abbrev pub invariant-loop-n : goal.invariant-loop-n
invariant-loop-n l = Summing l.text l.value l.n
