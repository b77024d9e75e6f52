use Rattle.runs.proofs.FirstOverlapLaws.{none_overlaps, first_overlaps, clear_more}
use Rattle.runs.proofs.first_overlap.Goals as goal

pub loop-i-preserved : goal.loop-i-preserved
loop-i-preserved c = clear_more _ _ _ c.loop-i.invariant c.overlaps_any.ensures c.if-overlaps_any.false

pub returns-then-overlaps_any-clause-lowest : goal.returns-then-overlaps_any-clause-lowest
returns-then-overlaps_any-clause-lowest c = first_overlaps _ _ _ c.loop-i.invariant c.loop-i-test.true c.overlaps_any.ensures c.if-overlaps_any.true

pub returns-clause-lowest : goal.returns-clause-lowest
returns-clause-lowest c = none_overlaps _ _ c.loop-i.invariant c.loop-i-test.false c.loop-i.auto.i-end
