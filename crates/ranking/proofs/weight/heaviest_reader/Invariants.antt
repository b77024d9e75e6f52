-- The greatest path of the files before the next one is known.
use mathlib.Core.Path.{◌≡◌}
use Rattle.rules.specs.Count.{max_where}
use Rattle.rules.specs.Scheduling.{makes}
use Rattle.model.specs.Jobs.{instance_in}
use Rattle.links.specs.declared.chains.End.TheVariants.{Maker}
use Rattle.links.specs.Files.{place, Of}
use Rattle.ranking.proofs.WeightLaws.{path_at}
use Rattle.ranking.proofs.weight.heaviest_reader.Given as goal

abbrev pub invariant-loop-k : goal.invariant-loop-k
invariant-loop-k l = record {
  of : Of l.links.job Maker l.i l.k-iterator;
  most : l.most ≡ max_where (place l.k-iterator) (makes (instance_in l.links.job) l.i) (path_at (instance_in l.links.job));
}
