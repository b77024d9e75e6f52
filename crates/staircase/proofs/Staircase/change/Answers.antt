-- `change` meets its contract: the type's invariant holds after it, and a step is added at most.
use Rattle.staircase.specs.Steps.{change_by}
use Rattle.staircase.proofs.StepLaws.{after_count}
use Rattle.staircase.proofs.AscendingLaws.{ascending-after}
use Rattle.staircase.proofs.Staircase.change.Goals as goal

pub invariant_of-self : goal.invariant_of-self
invariant_of-self c = rw c.change_at.ensures (ascending-after (change_by c.args.tick c.args.amount c.args.rises) _ c.self.invariant)

pub returns-clause-upper_bound : goal.returns-clause-upper_bound
returns-clause-upper_bound c = rw (c.change_at.ensures, ← c.self.view_is) (after_count (change_by c.args.tick c.args.amount c.args.rises) _)
