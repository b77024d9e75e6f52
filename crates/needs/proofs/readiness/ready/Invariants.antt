-- No file before the next one is missing.
use mathlib.Core.Bool.{false}
use mathlib.Core.Path.{◌≡◌}
use Rattle.rules.specs.Count.{any_below}
use Rattle.rules.specs.Scheduling.{missing}
use Rattle.model.specs.Jobs.{instance_in, schedule_of}
use Rattle.links.specs.declared.chains.End.TheVariants.{Reader}
use Rattle.links.specs.Files.{place, Of}
use Rattle.needs.proofs.readiness.ready.Given as goal

abbrev pub invariant-loop-k : goal.invariant-loop-k
invariant-loop-k l = record {
  of : Of l.links.job Reader l.task l.k-iterator;
  none : any_below (place l.k-iterator) (missing (instance_in l.links.job) (schedule_of l.links.job l.schedule) l.task) ≡ false;
}
