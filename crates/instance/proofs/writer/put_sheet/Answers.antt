-- `instance::writer::put_sheet` meets its contract: the board, the tasks and the files, one behind the other.
use Rattle.text.proofs.SinkLaws.{first-room, second-room, third-room, three-laid}
use Rattle.instance.proofs.TextLaws.{text-pieces}
use Rattle.instance.proofs.writer.put_sheet.Goals as goal

pub put_board-requires : goal.put_board-requires
put_board-requires g c =
    first-room g.met.S.Sink.lawful _ _ _ (rw (text-pieces c.args.job.now) at c.requires)

pub put_tasks-requires : goal.put_tasks-requires
put_tasks-requires g c =
    second-room g.met.S.Sink.lawful _ _ _ (rw (text-pieces c.args.job.now) at c.requires) c.put_board.ensures

pub put_files-requires : goal.put_files-requires
put_files-requires g c =
    third-room g.met.S.Sink.lawful _ _ _ (rw (text-pieces c.args.job.now) at c.requires) c.put_board.ensures c.put_tasks.ensures

pub returns : goal.returns
returns g c =
    let p = text-pieces c.args.job.now in
    rw p (three-laid g.met.S.Sink.lawful _ _ _ (rw p at c.requires) c.put_board.ensures c.put_tasks.ensures c.put_files.ensures)
