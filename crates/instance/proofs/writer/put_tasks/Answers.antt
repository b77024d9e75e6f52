use Rattle.text.proofs.SinkLaws.{pieces-none, piece-room, piece-laid}
use Rattle.model.specs.Jobs.{instance_in}
use Rattle.instance.proofs.TextLaws.{task-pieces, task-piece}
use Rattle.instance.proofs.writer.put_tasks.Goals as goal

pub loop-i-init : goal.loop-i-init
loop-i-init g c = pieces-none g.met.S.Sink.lawful (task-pieces (instance_in c.args.job.now)) _ c.requires

pub put_task-requires : goal.put_task-requires
put_task-requires g c =
    let I = instance_in c.args.job.now in
    piece-room g.met.S.Sink.lawful (task-pieces I) c.loop-i.i c.loop-i.invariant
    (task-piece I _ _ _ _ c.run_time-blue.ensures.value c.run_time-red.ensures.value c.work-work.ensures.value)
    _ c.loop-i-test.true c.requires

pub loop-i-preserved : goal.loop-i-preserved
loop-i-preserved g c =
    let I = instance_in c.args.job.now in
    piece-laid g.met.S.Sink.lawful (task-pieces I) c.loop-i.i c.loop-i.invariant
    (task-piece I _ _ _ _ c.run_time-blue.ensures.value c.run_time-red.ensures.value c.work-work.ensures.value)
    c.put_task.ensures
