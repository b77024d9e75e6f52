-- `change_if` meets its contract.
use Rattle.placement.proofs.MemoryLaws.{one-requires, one-made, none_made, change-some, change-none}
use Rattle.placement.proofs.memory.change_if.Goals as goal

pub change-requires : goal.change-requires
change-requires c =
    let r = one-requires (change-some c.args.tick c.args.rises c.args.amount c.if-amount-gt0.true) c.requires in
    record { room = r.0; fits = r.1 }

pub returns-then-amount-gt0 : goal.returns-then-amount-gt0
returns-then-amount-gt0 c =
    one-made (change-some c.args.tick c.args.rises c.args.amount c.if-amount-gt0.true) c.change.ensures.value c.change.ensures.upper_bound

pub returns-else-amount-gt0 : goal.returns-else-amount-gt0
returns-else-amount-gt0 c =
    none_made (change-none c.args.tick c.args.rises c.args.amount c.if-amount-gt0.false) _
