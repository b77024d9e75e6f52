-- `reader` meets its contract.
use mathlib.Core.Path.{sym, ap}
use Rattle.model.proofs.JobLaws.{file-in}
use Rattle.model.proofs.job.Job.reader.Goals as goal

pub returns-clause-value : goal.returns-clause-value
returns-clause-value c = sym (ap (λ f. f.reader) (file-in c.args.self.now c.args.k))
