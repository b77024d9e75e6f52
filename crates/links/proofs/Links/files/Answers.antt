use mathlib.Core.Path.{refl}
use Rattle.links.proofs.WalkLaws.{next-at}
use Rattle.links.proofs.Links.files.Goals as goal

pub invariant_of-result : goal.invariant_of-result
invariant_of-result c = record { reached = next-at c.first.ensures }

pub returns : goal.returns
returns c = record {
  of = record { same_job = refl; same_end = refl; same_task = refl };
  first = c.first.ensures.next;
}
