-- `next` meets its contract: each end has its own chains.
use native.Mathlib.Omega.{arith}
use Rattle.model.proofs.JobLaws.{files-in}
use Rattle.links.proofs.WalkLaws.{next-in}
use Rattle.links.proofs.Links.next.Goals as goal

pub returns-in-Maker : goal.returns-in-Maker
returns-in-Maker c =
    let l = c.args.self.now in
    rw (c.next.ensures, c.in-Maker.is)
    (λ i h. next-in l.job (l.made_chained.goes_on i c.args.k (omega (arith, files-in l.job, c.requires)) h))

pub returns-in-Reader : goal.returns-in-Reader
returns-in-Reader c =
    let l = c.args.self.now in
    rw (c.next-in-Reader.ensures, c.in-Reader.is)
    (λ i h. next-in l.job (l.read_chained.goes_on i c.args.k (omega (arith, files-in l.job, c.requires)) h))
