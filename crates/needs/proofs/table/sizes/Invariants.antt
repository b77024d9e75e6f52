-- The sum is that of the files before the next one.
use Prim.Native.Nat.{◌≤◌, ◌*◌}
use mathlib.Core.Path.{◌≡◌}
use Rattle.rules.specs.Count.{sum_where}
use Rattle.rules.specs.Limits.{file_sizes}
use Rattle.rules.specs.Model.{size_at}
use Rattle.model.specs.Jobs.{instance_in}
use Rattle.links.specs.Chains.{has_at}
use Rattle.links.specs.Files.{place, Of}
use Rattle.needs.proofs.table.sizes.Given as goal

abbrev pub invariant-loop-k : goal.invariant-loop-k
invariant-loop-k l = record {
  of : Of l.links.job l.fn.end l.task l.k-iterator;
  most : l.sum ≤ file_sizes.most * place l.k-iterator;
  sum : l.sum ≡ sum_where (place l.k-iterator) (has_at l.fn.end (instance_in l.links.job) l.task) (size_at (instance_in l.links.job));
}
