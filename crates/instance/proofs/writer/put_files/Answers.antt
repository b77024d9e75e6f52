use Rattle.text.proofs.SinkLaws.{pieces-none, piece-room, piece-laid}
use Rattle.model.specs.Jobs.{instance_in}
use Rattle.instance.proofs.TextLaws.{file-pieces, file-piece}
use Rattle.instance.proofs.writer.put_files.Goals as goal

pub loop-k-init : goal.loop-k-init
loop-k-init g c = pieces-none g.met.S.Sink.lawful (file-pieces (instance_in c.args.job.now)) _ c.requires

pub put_file-requires : goal.put_file-requires
put_file-requires g c =
    let I = instance_in c.args.job.now in
    piece-room g.met.S.Sink.lawful (file-pieces I) c.loop-k.k c.loop-k.invariant
    (file-piece I _ _ _ _ _ c.maker-maker.ensures.value c.reader-reader.ensures.value c.size-size.ensures.value c.move_time-time.ensures.value)
    _ c.loop-k-test.true c.requires

pub loop-k-preserved : goal.loop-k-preserved
loop-k-preserved g c =
    let I = instance_in c.args.job.now in
    piece-laid g.met.S.Sink.lawful (file-pieces I) c.loop-k.k c.loop-k.invariant
    (file-piece I _ _ _ _ _ c.maker-maker.ensures.value c.reader-reader.ensures.value c.size-size.ensures.value c.move_time-time.ensures.value)
    c.put_file.ensures
