-- `move_in` meets its contract.
use Rattle.placement.proofs.MemoryLaws.{one-requires, one-made, none_made, moves-some, moves-none}
use Rattle.placement.proofs.memory.move_in.Goals as goal

pub change-requires : goal.change-requires
change-requires c =
    let e = moves-some c.args.job.now c.args.schedule.now c.args.trial c.cost_for-cost.ensures.cost_of c.saturating_sub-departs.ensures c.if-takes-gt0.true in
    let r = one-requires e c.requires.pending in
    record { room = r.0; fits = r.1 }

pub returns-then-takes-gt0 : goal.returns-then-takes-gt0
returns-then-takes-gt0 c =
    let e = moves-some c.args.job.now c.args.schedule.now c.args.trial c.cost_for-cost.ensures.cost_of c.saturating_sub-departs.ensures c.if-takes-gt0.true in
    one-made e c.change.ensures.value c.change.ensures.upper_bound

pub returns-else-takes-gt0 : goal.returns-else-takes-gt0
returns-else-takes-gt0 c =
    none_made (moves-none c.args.job.now c.args.schedule.now c.args.trial c.cost_for-cost.ensures.cost_of c.requires.k_lt_files c.if-takes-gt0.false) _
