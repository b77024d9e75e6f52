-- `added` meets its contract: the tasks with W are those that the conversion counts.
use mathlib.Core.Path.{◌≡◌, ◌∙◌}
use native.Mathlib.Omega.{arith}
use Rattle.std.proofs.lemmas.List.Sums.{length-filter, count_by-le-length}
use Rattle.conversion.proofs.CountLaws.{has, filter-added}
use Rattle.conversion.proofs.added.added.Goals as goal

pub returns-clause-value : goal.returns-clause-value
returns-clause-value c = λ b fs. c.with_work.ensures ∙ filter-added b c.args.tasks.now fs

pub returns-clause-upper_bound : goal.returns-clause-upper_bound
returns-clause-upper_bound c = omega (arith, length-filter has c.args.tasks.now, count_by-le-length has c.args.tasks.now)
