use Rattle.staircase.proofs.ReadLaws.{read_at, tick_within, first_part, part_exists}
use Rattle.staircase.proofs.both_from.Goals as goal

pub tick_of-requires-2 : goal.tick_of-requires-2
tick_of-requires-2 c =
    let third = c.settled-third in
    rw c.or-fourth.ensures (part_exists c.args.steps.now c.args.all c.args.some c.requires third.result third.ensures.value c.unwrap_or.ensures
    c.settled.result c.settled.ensures.exists third.ensures.exists)

pub returns-clause-third_value : goal.returns-clause-third_value
returns-clause-third_value c =
    let third = c.settled-third in
    read_at c.args.steps.now c.args.all third.result third.ensures.value third.ensures.exists c.tick_of.ensures

pub returns-clause-fourth_value : goal.returns-clause-fourth_value
returns-clause-fourth_value c =
    let xs = c.args.steps.now in
    let third = c.settled-third in
    let value = rw (← c.or-fourth.ensures) at (first_part xs c.args.all c.args.some c.requires third.result third.ensures.value c.unwrap_or.ensures
    c.settled.result c.settled.ensures.value) in
    let exists = rw (← c.or-fourth.ensures) at (part_exists xs c.args.all c.args.some c.requires third.result third.ensures.value c.unwrap_or.ensures
    c.settled.result c.settled.ensures.exists third.ensures.exists) in
    read_at xs c.args.some c.or-fourth.result value exists c.tick_of-2.ensures

pub returns-clause-by_index : goal.returns-clause-by_index
returns-clause-by_index c = λ b h.
    let xs = c.args.steps.now in
    let third = c.settled-third in
    let exists = rw (← c.or-fourth.ensures) at (part_exists xs c.args.all c.args.some c.requires third.result third.ensures.value c.unwrap_or.ensures
    c.settled.result c.settled.ensures.exists third.ensures.exists) in (
      tick_within xs third.result third.ensures.exists c.tick_of.ensures b h,
      tick_within xs c.or-fourth.result exists c.tick_of-2.ensures b h,
    )
