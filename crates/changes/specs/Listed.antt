-- A memory's changes as a list of numbers.
use Rattle.std.specs.Prelude.{ℕ, ◌+◌, ◌≤◌, List, ◌++◌, ◌≡◌, map, length}
use Rattle.rules.specs.Count.{list_below}
use Rattle.rules.specs.Residency.{Hold}
use Rattle.rules.specs.Changes.{Residency, Change, changes_by, changes_in}
use Rattle.changes.specs.Packed.{unpacked}

-- the changes that the numbers stand for
abbrev pub listed : List ℕ → List Change
listed xs = map unpacked xs

-- ys are xs and behind them the changes of a hold
pub record Pushed (xs : List ℕ) (h : Hold) (size : ℕ) (ys : List ℕ) : Type 0 where
  pub more : length ys ≤ length xs + 2
  pub changes : listed ys ≡ listed xs ++ changes_by h size

-- ys are xs and behind them the changes of the first k residencies of g
pub record Listing (xs : List ℕ) (g : ℕ → Residency) (k : ℕ) (ys : List ℕ) : Type 0 where
  pub more : length ys ≤ length xs + (k + k)
  pub changes : listed ys ≡ listed xs ++ changes_in (list_below k g)
