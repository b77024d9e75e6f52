-- `schedule::writer::put_schedule` meets its contract: the runs, the moves and the claim, one behind the other.
use Rattle.text.proofs.SinkLaws.{first-room, second-room, third-room, three-laid}
use Rattle.model.specs.Layout.{entries_of}
use Rattle.model.specs.Claims.{as_claim}
use Rattle.schedule.proofs.TextLaws.{text-pieces, text-short}
use Rattle.schedule.proofs.writer.put_schedule.Goals as goal

pub put_runs-requires : goal.put_runs-requires
put_runs-requires g c =
    let p = text-pieces c.args.job.now (entries_of c.args.schedule.now) (as_claim c.args.claim) in
    first-room g.met.S.Sink.lawful _ _ _ (rw p at c.requires)

pub put_moves-requires : goal.put_moves-requires
put_moves-requires g c =
    let p = text-pieces c.args.job.now (entries_of c.args.schedule.now) (as_claim c.args.claim) in
    second-room g.met.S.Sink.lawful _ _ _ (rw p at c.requires) c.put_runs.ensures.laid

pub put_claim-requires : goal.put_claim-requires
put_claim-requires g c =
    let p = text-pieces c.args.job.now (entries_of c.args.schedule.now) (as_claim c.args.claim) in
    third-room g.met.S.Sink.lawful _ _ _ (rw p at c.requires) c.put_runs.ensures.laid c.put_moves.ensures.laid

pub returns-clause-laid : goal.returns-clause-laid
returns-clause-laid g c =
    let p = text-pieces c.args.job.now (entries_of c.args.schedule.now) (as_claim c.args.claim) in
    rw p (three-laid g.met.S.Sink.lawful _ _ _ (rw p at c.requires) c.put_runs.ensures.laid c.put_moves.ensures.laid c.put_claim.ensures.laid)

pub returns-clause-upper_bound : goal.returns-clause-upper_bound
returns-clause-upper_bound g c =
    text-short c.args.job.now (entries_of c.args.schedule.now) (as_claim c.args.claim)
    c.put_runs.ensures.upper_bound c.put_moves.ensures.upper_bound c.put_claim.ensures.upper_bound
