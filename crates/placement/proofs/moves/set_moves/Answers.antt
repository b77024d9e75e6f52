use Rattle.model.specs.Colours.{as_colour}
use Rattle.links.proofs.WalkLaws.{begins, turn, ended}
use Rattle.placement.proofs.MoveLaws.{moves-none, moves-turn, moves-skip, moves-total}
use Rattle.placement.proofs.moves.set_moves.Goals as goal

pub loop-k-init : goal.loop-k-init
loop-k-init c =
    let j = c.args.links.now.job in
    let b = begins c.files-k-items.ensures c.into_iter-k-iterator.ensures.into_iter_gives in
    record { of = b.of; moves = moves-skip j _ _ _ _ b.first (moves-none j _ _ _ _ c.requires.schedule_len) }

pub move_with-t-requires : goal.move_with-t-requires
move_with-t-requires c = (turn c.loop-k.invariant.of c.next.ensures.steps c.in-Some.is).exists

pub loop-k-preserved : goal.loop-k-preserved
loop-k-preserved c =
    let j = c.args.links.now.job in
    let set = c.set_move_start.ensures in
    let t = turn c.loop-k.invariant.of c.next.ensures.steps c.in-Some.is in record {
      of = t.of;
      moves = moves-skip j _ _ _ _ t.next
          (moves-turn j _ _ _ _ t.exists (rw t.came at c.loop-k.invariant.moves) c.move_with-t.ensures set.schedule_after set.schedule_len.1);
    }

pub returns : goal.returns
returns c =
    let j = c.args.links.now.job in
    let m = c.loop-k.invariant.moves in record {
      schedule_len_2 = m.size;
      by_index = m.runs;
      schedule_after = moves-total j c.args.schedule.now c.args.trial.task (as_colour c.args.trial.colour) c.args.trial.start
          (ended c.loop-k.invariant.of c.next.ensures.steps c.in-None.is) m;
    }
