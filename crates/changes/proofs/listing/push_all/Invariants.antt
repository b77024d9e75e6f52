-- `push_all` meets its contract. The invariant: the changes of the holds passed stand behind those before.
use Rattle.std.proofs.Common.{ℕ, ◌+◌, ◌≤◌, length}
use Rattle.rules.specs.Changes.{Residency}
use Rattle.model.specs.Residencies.{Gives}
use Rattle.changes.specs.Listed.{Listing}
use Rattle.changes.proofs.listing.push_all.Given as goal

abbrev pub invariant-loop-k : goal.invariant-loop-k
invariant-loop-k g l = record {
  more : length l.changes.items ≤ length l.initial.changes.items + (l.k + l.k);
  changes : (f : ℕ → Residency) → Gives (goal.F-post g l.residency) l.n f → Listing l.initial.changes.items f l.k l.changes.items;
}
