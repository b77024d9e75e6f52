-- `convert_files` meets its contract. The invariant: the files passed are stored.
use Prim.Native.Nat.{◌+◌, ◌≤◌}
use lib.ListN.{length}
use Rattle.model.specs.Jobs.{instance_in}
use Rattle.conversion.specs.Stored.{Stored}
use Rattle.conversion.proofs.job.convert_files.Given as goal

abbrev pub invariant-loop-k : goal.invariant-loop-k
invariant-loop-k l = (l.k ≤ length l.job.files.now) × Stored (instance_in l.job) l.target (l.added + length l.job.tasks.now) (l.added + l.k)
