-- The files from k on are chained.
use mathlib.Core.Path.{◌≡◌}
use lib.ListN.{length}
use Rattle.rules.specs.Limits.{max_tasks, max_files}
use Rattle.model.specs.Jobs.{instance_in}
use Rattle.links.specs.Chains.{has_at}
use Rattle.links.proofs.LinkLaws.{ChainedFrom}
use Rattle.links.proofs.chains.chain.Given as goal

abbrev pub invariant-loop-k : goal.invariant-loop-k
invariant-loop-k l =
    (length l.chains.first ≡ max_tasks) × (length l.chains.next ≡ max_files) × ChainedFrom (instance_in l.job) (has_at l.end (instance_in l.job)) l.chains l.k
