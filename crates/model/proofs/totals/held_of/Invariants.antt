-- `held_of` meets its contract. The invariant: each sum is that of the holds passed.
use Rattle.std.proofs.Common.{ℕ, ◌≡◌, ◌≤◌, ◌*◌}
use Rattle.rules.specs.Changes.{Residency}
use Rattle.rules.specs.Count.{sum_where}
use Rattle.rules.specs.Limits.{file_sizes}
use Rattle.rules.specs.Residency.{covers}
use Rattle.model.specs.declared.colour.Colour.TheVariants.{Blue, Red}
use Rattle.model.specs.Residencies.{GivesIn}
use Rattle.model.proofs.totals.held_of.Given as goal

abbrev pub invariant-loop-k : goal.invariant-loop-k
invariant-loop-k g l = record {
  in_blue : (f : ℕ → Residency) → GivesIn Blue (goal.F-post g l.residency) l.n f → l.blue ≡ sum_where l.k (λ k. covers (f k).hold l.t) (λ k. (f k).size);
  in_red : (f : ℕ → Residency) → GivesIn Red (goal.F-post g l.residency) l.n f → l.red ≡ sum_where l.k (λ k. covers (f k).hold l.t) (λ k. (f k).size);
  blue_bound : l.blue ≤ file_sizes.most * l.k;
  red_bound : l.red ≤ file_sizes.most * l.k;
}
