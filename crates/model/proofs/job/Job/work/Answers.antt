-- `work` meets its contract.
use mathlib.Core.Path.{sym, ap}
use Rattle.model.proofs.JobLaws.{task-in}
use Rattle.model.proofs.job.Job.work.Goals as goal

pub returns-clause-value : goal.returns-clause-value
returns-clause-value c = sym (ap (λ t. t.work) (task-in c.args.self.now c.args.i))
