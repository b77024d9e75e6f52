-- `move_with` meets its contract: a file that crosses takes some time to move.
use mathlib.Core.Path.{refl}
use native.Mathlib.Omega.{arith}
use borrow.Author.Tests.{lt-ltb, le-ltb}
use Rattle.model.specs.Colours.{as_colour}
use Rattle.model.specs.Layout.{entries_of}
use Rattle.placement.proofs.MoveLaws.{move-from}
use Rattle.placement.proofs.moves.move_with.Goals as goal

pub returns-then-takes-eq0 : goal.returns-then-takes-eq0
returns-then-takes-eq0 c =
    let t = c.args.trial in
    let m = move-from c.args.job.now (entries_of c.args.schedule.now) c.requires t.task (as_colour t.colour) t.start
    c.cost_for-cost.ensures.cost_of.move_time refl c.move_start.ensures in
    rw (le-ltb 0 c.cost_for-cost.result.move_time (omega arith)) at m

pub returns : goal.returns
returns c =
    let t = c.args.trial in
    let L = entries_of c.args.schedule.now in
    let m = move-from c.args.job.now L c.requires t.task (as_colour t.colour) t.start {u = L.move_start c.args.k}
    c.cost_for-cost.ensures.cost_of.move_time c.saturating_sub.ensures refl in
    rw (lt-ltb 0 c.cost_for-cost.result.move_time (omega (arith, c.if-takes-eq0.false))) at m
