use Rattle.text.proofs.SizeLaws.{none-short, piece-short}
use Rattle.text.proofs.SinkLaws.{pieces-none, piece-room, piece-laid}
use Rattle.model.specs.Layout.{entries_of}
use Rattle.model.specs.Jobs.{schedule_of}
use Rattle.schedule.specs.Sizes.{longest}
use Rattle.schedule.proofs.TextLaws.{run-pieces, run-piece}
use Rattle.schedule.proofs.writer.put_runs.Goals as goal

pub loop-i-init : goal.loop-i-init
loop-i-init g c =
    let p = run-pieces (schedule_of c.args.job.now c.args.schedule.now) in
    (pieces-none g.met.S.Sink.lawful p _ c.requires, none-short longest p)

pub put_run-requires : goal.put_run-requires
put_run-requires g c =
    let j = c.args.job.now in
    piece-room g.met.S.Sink.lawful (run-pieces (schedule_of j c.args.schedule.now)) c.loop-i.i c.loop-i.invariant.0
    (run-piece j (entries_of c.args.schedule.now) c.loop-i-test.true _ _ c.processor-processor.ensures c.start-start.ensures)
    _ c.loop-i-test.true c.requires

pub loop-i-preserved : goal.loop-i-preserved
loop-i-preserved g c =
    let j = c.args.job.now in
    let p = run-pieces (schedule_of j c.args.schedule.now) in
    let piece = run-piece j (entries_of c.args.schedule.now) c.loop-i-test.true _ _ c.processor-processor.ensures c.start-start.ensures in (
      piece-laid g.met.S.Sink.lawful p c.loop-i.i c.loop-i.invariant.0 piece c.put_run.ensures.laid,
      piece-short longest p c.loop-i.i c.loop-i.invariant.1 piece c.put_run.ensures.upper_bound,
    )
