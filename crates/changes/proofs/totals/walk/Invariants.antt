-- `walk` meets its contract. The invariant: the totals over the changes passed.
use Rattle.changes.proofs.TotalLaws.{Walking}
use Rattle.changes.proofs.totals.walk.Given as goal

abbrev pub invariant-loop-change : goal.invariant-loop-change
invariant-loop-change l = Walking l.changes l.limit l.total l.greatest l.over l.change-index
