-- The lowest run of a list that overlaps another of it.
use Rattle.std.specs.Prelude.{ℕ, ◌<◌, ◌≤◌, ◌≡◌, true, false, ◌≢◌, List, get_or}
use Rattle.runs.specs.Overlaps.{overlapping, no_run}
use Rattle.runs.specs.declared.Run.{Run}

-- of the first n runs of the list, f is the lowest index whose run overlaps another's, or n where no two overlap
pub record FirstOverlap (l : List Run) (n f : ℕ) : Type 0 where
  pub within : f ≤ n
  pub before : (i j : ℕ) → i < f → j < n → i ≢ j → overlapping (get_or l i no_run) (get_or l j no_run) ≡ false
  pub found : f < n → (j : ℕ) × (j < n) × (f ≢ j) × (overlapping (get_or l f no_run) (get_or l j no_run) ≡ true)
