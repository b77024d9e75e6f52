-- `instance::sheet::rest_of` meets its contract: what the lines passed left to read.
use lib.ListN.{length}
use Rattle.instance.proofs.ReadLaws.{Reading}
use Rattle.instance.proofs.sheet.rest_of.Given as goal

abbrev pub invariant-loop-rest : goal.invariant-loop-rest
invariant-loop-rest l = Reading l.board l.sheet l.initial.numbers l.numbers l.rest l.line

abbrev pub decreases-loop-rest : goal.decreases-loop-rest
decreases-loop-rest l = length l.rest
