-- `run_time` meets its contract.
use Rattle.std.proofs.Common.{◌∙◌, sym}
use Rattle.model.proofs.LayoutLaws.{time-by}
use Rattle.model.proofs.JobLaws.{task-in}
use Rattle.model.proofs.job.Job.run_time.Goals as goal

pub returns-clause-value : goal.returns-clause-value
returns-clause-value c = c.by_colour.ensures.value ∙ rw (task-in c.args.self.now c.args.i) (sym (time-by c.args.colour _))
