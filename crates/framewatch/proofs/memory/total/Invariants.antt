-- The sum is that of the files passed.
use Rattle.std.proofs.Common.{◌≡◌, ◌*◌, ◌≤◌, get_or}
use Rattle.rules.specs.Limits.{file_sizes}
use Rattle.rules.specs.Count.{sum_where}
use Rattle.rules.specs.Model.{size_at}
use Rattle.rules.specs.SimulationPromises.{is_in}
use Rattle.model.specs.Colours.{as_colour}
use Rattle.model.specs.Jobs.{instance_in}
use Rattle.framewatch.proofs.memory.total.Given as goal

abbrev pub invariant-loop-k : goal.invariant-loop-k
invariant-loop-k l =
    (l.sum ≤ file_sizes.most * l.k)
    × (l.sum ≡ sum_where l.k (λ j. is_in (as_colour l.colour) (get_or l.contents j 0)) (size_at (instance_in l.job)))
