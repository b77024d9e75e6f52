-- `add_tasks` meets its contract. The invariant: the tasks passed are stored.
use Prim.Native.Nat.{◌+◌, ◌≤◌}
use mathlib.Core.Path.{◌≡◌}
use lib.ListN.{length}
use Rattle.rules.specs.Model.{Instance}
use Rattle.rules.specs.Conversion.{added_count}
use Rattle.model.specs.Layout.{no_numbers}
use Rattle.conversion.specs.Stored.{Stored}
use Rattle.conversion.proofs.job.add_tasks.Given as goal

abbrev pub invariant-loop-k : goal.invariant-loop-k
invariant-loop-k l =
    (l.k ≤ l.added) × (length l.target.tasks.items ≡ length l.initial.target.tasks.items + l.k)
    × ((I : Instance) → l.added ≡ added_count I → l.initial.target ≡ no_numbers → Stored I l.target l.k 0)
