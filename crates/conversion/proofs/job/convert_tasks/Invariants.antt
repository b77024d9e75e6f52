-- `convert_tasks` meets its contract. The invariant: the tasks passed are stored, with a file for each that has W.
use Prim.Native.Nat.{◌+◌, ◌≤◌}
use mathlib.Core.Path.{◌≡◌}
use lib.ListN.{length}
use Rattle.model.specs.Jobs.{instance_in}
use Rattle.conversion.specs.Stored.{Stored}
use Rattle.conversion.proofs.CountLaws.{count_to}
use Rattle.conversion.proofs.job.convert_tasks.Given as goal

abbrev pub invariant-loop-i : goal.invariant-loop-i
invariant-loop-i l = (l.i ≤ length l.job.tasks.now) × (l.k ≡ count_to l.job l.i) × Stored (instance_in l.job) l.target (l.added + l.i) l.k
