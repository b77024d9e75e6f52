use Rattle.std.proofs.Common.{arith}
use Rattle.changes.proofs.TotalLaws.{walking-none, walking-next, greatest-walked, over-walked}
use Rattle.changes.proofs.totals.walk.Goals as goal

pub loop-change-init : goal.loop-change-init
loop-change-init c = walking-none _ _

pub loop-change-preserved : goal.loop-change-preserved
loop-change-preserved c =
    let e = c.changed-total.ensures in
    walking-next c.loop-change.invariant c.loop-change-test.true e.value e.upper_bound c.max-greatest.ensures c.tick_of.ensures c.first_over-over.ensures

pub returns : goal.returns
returns c = record {
  greatest_value = greatest-walked c.loop-change.invariant (omega arith);
  over_value = over-walked c.loop-change.invariant (omega arith);
}
