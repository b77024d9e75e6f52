-- Each task is right that reads nothing of what i makes, from the next file on.
use Rattle.model.specs.Jobs.{instance_in, schedule_of}
use Rattle.links.specs.declared.chains.End.TheVariants.{Maker}
use Rattle.links.specs.Files.{place, Of}
use Rattle.needs.proofs.FillLaws.{RightFrom}
use Rattle.needs.proofs.table.Needs.renew.Given as goal

abbrev pub invariant-loop-k : goal.invariant-loop-k
invariant-loop-k l = record {
  of : Of l.links.job Maker l.i l.k-iterator;
  right : RightFrom (instance_in l.links.job) (schedule_of l.links.job l.schedule) l.i (place l.k-iterator) l.self.tasks;
}
