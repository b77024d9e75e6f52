use Rattle.text.proofs.SizeLaws.{none-short, piece-short, no-piece-short}
use Rattle.text.proofs.SinkLaws.{pieces-none, piece-room, piece-laid, piece-skip}
use Rattle.model.specs.Jobs.{instance_in, schedule_of}
use Rattle.model.specs.Layout.{entries_of}
use Rattle.schedule.specs.Sizes.{longest}
use Rattle.schedule.proofs.CrossingLaws.{moved-is}
use Rattle.schedule.proofs.TextLaws.{move-pieces, move-piece, no-piece}
use Rattle.schedule.proofs.writer.put_moves.Goals as goal
use Rattle.schedule.proofs.writer.put_moves.Goals.{then-moves, else-moves}

pub loop-k-init : goal.loop-k-init
loop-k-init g c =
    let j = c.args.job.now in
    let p = move-pieces (instance_in j) (schedule_of j c.args.schedule.now) in
    (pieces-none g.met.S.Sink.lawful p _ c.requires, none-short longest p)

pub put_move-requires : goal.put_move-requires
put_move-requires g c =
    let j = c.args.job.now in
    let I = instance_in j in
    let P = schedule_of j c.args.schedule.now in
    piece-room g.met.S.Sink.lawful (move-pieces I P) c.loop-k.k c.loop-k.invariant.0
    (move-piece I j (entries_of c.args.schedule.now) c.loop-k-test.true _ _ _ c.maker-maker.ensures.value c.reader-reader.ensures.value
    c.move_start-start.ensures (moved-is I P c.loop-k.k c.moves.ensures c.if-moves.true))
    _ c.loop-k-test.true c.requires

pub loop-k-preserved : goal.loop-k-preserved
loop-k-preserved g c =
    let j = c.args.job.now in
    let I = instance_in j in
    let E = entries_of c.args.schedule.now in
    let P = schedule_of j c.args.schedule.now in
    let L = g.met.S.Sink.lawful in
    let p = move-pieces I P in
    elim c.if-moves.branch [
      | then-moves w ↦
          let piece =
          move-piece I j E c.loop-k-test.true _ _ _ w.maker-maker.ensures.value w.reader-reader.ensures.value w.move_start-start.ensures
          (moved-is I P c.loop-k.k c.moves.ensures w.if-moves.true) in
          rw w.sink-is (
            piece-laid L p c.loop-k.k c.loop-k.invariant.0 piece w.put_move.ensures.laid,
            piece-short longest p c.loop-k.k c.loop-k.invariant.1 piece w.put_move.ensures.upper_bound,
          )
      | else-moves w ↦
          let none = no-piece I j E c.loop-k-test.true (moved-is I P c.loop-k.k c.moves.ensures w.if-moves.false) in
          rw w.sink-is (
            piece-skip L p c.loop-k.k c.loop-k.invariant.0 none,
            no-piece-short longest p c.loop-k.k c.loop-k.invariant.1 none,
          )
    ]
