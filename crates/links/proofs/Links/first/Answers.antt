-- `first` meets its contract: each end has its own chains.
use native.Mathlib.Omega.{arith}
use Rattle.model.proofs.JobLaws.{tasks-in}
use Rattle.links.proofs.WalkLaws.{next-in}
use Rattle.links.proofs.Links.first.Goals as goal

pub returns-in-Maker : goal.returns-in-Maker
returns-in-Maker c =
    let l = c.args.self.now in
    rw (c.first.ensures, c.in-Maker.is)
    (next-in l.job (l.made_chained.begins c.args.task (omega (arith, tasks-in l.job, c.requires))))

pub returns-in-Reader : goal.returns-in-Reader
returns-in-Reader c =
    let l = c.args.self.now in
    rw (c.first-in-Reader.ensures, c.in-Reader.is)
    (next-in l.job (l.read_chained.begins c.args.task (omega (arith, tasks-in l.job, c.requires))))
