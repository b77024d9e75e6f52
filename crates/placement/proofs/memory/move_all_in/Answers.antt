use Rattle.links.proofs.WalkLaws.{begins, turn, ended}
use Rattle.placement.proofs.MemoryLaws.{walk-begin, walk-requires, walk_turn}
use Rattle.placement.proofs.memory.move_all_in.Goals as goal

pub loop-k-init : goal.loop-k-init
loop-k-init c =
    let b = begins c.files-k-items.ensures c.into_iter-k-iterator.ensures.into_iter_gives in
    record { of = b.of; made = walk-begin c.args.links.now.job c.args.schedule.now c.args.trial b.first }

pub move_in-requires : goal.move_in-requires
move_in-requires c =
    let t = turn c.loop-k.invariant.of c.next.ensures.steps c.in-Some.is in record {
      k_lt_files = t.exists;
      pending = walk-requires c.args.links.now.job c.args.schedule.now c.args.trial (rw t.came at c.loop-k.invariant.made) t.exists c.requires.pending;
    }

pub loop-k-preserved : goal.loop-k-preserved
loop-k-preserved c =
    let t = turn c.loop-k.invariant.of c.next.ensures.steps c.in-Some.is in record {
      of = t.of;
      made = walk_turn c.args.links.now.job c.args.schedule.now c.args.trial (rw t.came at c.loop-k.invariant.made) t.next c.move_in.ensures;
    }

pub returns : goal.returns
returns c = rw (ended c.loop-k.invariant.of c.next.ensures.steps c.in-None.is) at c.loop-k.invariant.made
