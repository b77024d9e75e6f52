-- A memory's staircase by the hold rule, kept from placing to placing: the words of the planner's contracts.
use Rattle.std.specs.Prelude.{ℕ, ◌+◌, ◌≤◌, cond, List, ◌≡◌, leb, length}
use Rattle.rules.specs.Count.{sum_over}
use Rattle.rules.specs.Limits.{max_pairs}
use Rattle.rules.specs.Model.{Colour, Instance, Schedule}
use Rattle.rules.specs.Changes.{Change}
use Rattle.rules.specs.Staircase.{Step, Staircase, stairs, steps_after_all}
use Rattle.staircase.specs.Steps.{max_free}

-- memory c's list of pairs by the hold rule: ticks ascending from 0, and the amount free from each on
pub record HoldsStairs (I : Instance) (P : Schedule) (c : Colour) (xs : List Step) : Type 0 where
  pub steps : xs ≡ stairs I P c

-- ---- several changes, one after the other

-- what a change has made risen by tick t
abbrev pub risen : ℕ → Change → ℕ
risen t x = cond (leb x.tick t) (cond x.rises x.amount 0) 0

-- the steps are a staircase, that of `free` by the tick, and there is room for the changes xs
pub record Pending (xs : List Change) (steps : List Step) : Type 0 where
  pub free : ℕ → ℕ
  pub staircase : Staircase free steps
  pub slots : length steps + length xs ≤ max_pairs
  pub room : (t : ℕ) → sum_over (risen t) xs ≤ free t
  pub most : (t : ℕ) → free t + sum_over (λ x. x.amount) xs ≤ max_free

-- the second steps are the first after the changes xs
pub record Made (xs : List Change) (old new : List Step) : Type 0 where
  pub steps : new ≡ steps_after_all xs old
  pub count : length new ≤ length old + length xs
