use native.Mathlib.Omega.{arith}
use Rattle.links.proofs.WalkLaws.{begins, turn, ended}
use Rattle.ranking.proofs.WeightLaws.{walk_start, walk_turn, walk_end}
use Rattle.ranking.proofs.weight.heaviest_reader.Goals as goal

pub loop-k-init : goal.loop-k-init
loop-k-init c =
    let b = begins c.files-k-items.ensures c.into_iter-k-iterator.ensures.into_iter_gives in
    record { of = b.of; most = walk_start c.args.links.now.job c.requires.well_formed c.args.i b.first }

pub reader-reader-requires : goal.reader-reader-requires
reader-reader-requires c = (turn c.loop-k.invariant.of c.next.ensures.steps c.in-Some.is).exists

pub move_time-requires : goal.move_time-requires
move_time-requires c = (turn c.loop-k.invariant.of c.next.ensures.steps c.in-Some.is).exists

pub overflow_add-move_time : goal.overflow_add-move_time
overflow_add-move_time c = omega (arith, c.move_time.ensures.upper_bound, c.requires.weights_from.bounded c.reader-reader.result)

pub loop-k-preserved : goal.loop-k-preserved
loop-k-preserved c =
    let t = turn c.loop-k.invariant.of c.next.ensures.steps c.in-Some.is in record {
      of = t.of;
      most = walk_turn c.args.links.now.job c.requires.well_formed c.args.i c.loop-k.most (rw t.came at c.loop-k.invariant.most) t.exists t.holds
          c.requires.weights_from c.reader-reader.ensures.value c.move_time.ensures.value t.next c.max-most.ensures;
    }

pub returns : goal.returns
returns c = walk_end c.args.links.now.job c.requires.well_formed c.args.i c.loop-k.invariant.most (ended c.loop-k.invariant.of c.next.ensures.steps c.in-None.is)
