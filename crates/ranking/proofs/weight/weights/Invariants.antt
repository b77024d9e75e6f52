-- The weights of the tasks from i on are in the array.
use mathlib.Core.Path.{◌≡◌}
use lib.ListN.{length}
use Rattle.rules.specs.Limits.{max_tasks}
use Rattle.model.specs.Jobs.{instance_in}
use Rattle.ranking.specs.Weights.{WeightsFrom}
use Rattle.ranking.proofs.weight.weights.Given as goal

abbrev pub invariant-loop-i : goal.invariant-loop-i
invariant-loop-i l = (length l.all ≡ max_tasks) × WeightsFrom (instance_in l.links.job) l.all l.i
