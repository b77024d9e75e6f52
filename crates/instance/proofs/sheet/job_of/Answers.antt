-- `instance::sheet::job_of` meets its contract: the numbers read are in their bounds, and the job is of them.
use Rattle.instance.proofs.AcceptedLaws.{well-formed, accepted-bounds}
use Rattle.instance.proofs.sheet.job_of.Goals as goal

pub job-requires : goal.job-requires
job-requires c = accepted-bounds c.args.sheet.now c.in_ok-board.board c.read.new.numbers c.in_ok-board.ensures

pub returns-clause-well_formed : goal.returns-clause-well_formed
returns-clause-well_formed c = rw c.job.ensures (well-formed c.args.sheet.now c.in_ok-board.ensures)
