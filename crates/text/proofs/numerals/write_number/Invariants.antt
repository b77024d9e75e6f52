-- `text::numerals::write_number` meets its contract: the digits are stored from the last to the first.
use Rattle.text.proofs.WriteNumeralLaws.{Pending}
use Rattle.text.proofs.numerals.write_number.Given as goal

abbrev pub invariant-loop-k : goal.invariant-loop-k
invariant-loop-k l = Pending l.value l.initial.out l.out l.k l.v
