-- The demand is that of the files before the next one.
use Rattle.model.specs.Colours.{as_colour}
use Rattle.model.specs.Jobs.{instance_in, schedule_of}
use Rattle.links.specs.declared.chains.End.TheVariants.{Reader}
use Rattle.links.specs.Files.{place, Of}
use Rattle.needs.specs.Demands.{DemandBelow, DemandBounds}
use Rattle.needs.proofs.demand.demand_of.Given as goal

abbrev pub invariant-loop-k : goal.invariant-loop-k
invariant-loop-k l = record {
  of : Of l.links.job Reader l.task l.k-iterator;
  bounds : DemandBounds (place l.k-iterator) l.demand;
  below : DemandBelow (instance_in l.links.job) (schedule_of l.links.job l.schedule) l.task (as_colour l.colour) (place l.k-iterator) l.demand;
}
