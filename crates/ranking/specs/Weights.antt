-- An array of weights that is filled from the last task down.
use Rattle.std.specs.Prelude.{ℕ, ◌+◌, ◌*◌, ◌≤◌, ◌<◌, List, ◌≡◌, get_or}
use Rattle.rules.specs.Count.{max_where}
use Rattle.rules.specs.Limits.{max_tasks, run_times, move_times}
use Rattle.rules.specs.Model.{Instance, task_count, file_count, file_at, move_time_at}
use Rattle.rules.specs.Scheduling.{makes, weight}

-- the greatest, over the files that task i makes, of move time plus reader's weight; 0 if it makes none
abbrev pub heaviest_reader : Instance → ℕ → ℕ
heaviest_reader I i = max_where (file_count I) (makes I i) (λ k. move_time_at I k + weight I (file_at I k).reader)

-- what one task of a chain adds to a weight, at most
abbrev pub most_step : ℕ
most_step = 2 * run_times.most + move_times.most

-- no weight is greater
abbrev pub most_weight : ℕ
most_weight = most_step * max_tasks

-- the weights of the tasks from i on are in the array, and no entry is greater than a weight can be
pub record WeightsFrom (I : Instance) (ws : List ℕ) (i : ℕ) : Type 0 where
  pub known : (j : ℕ) → i ≤ j → j < task_count I → get_or ws j 0 ≡ weight I j
  pub bounded : (j : ℕ) → get_or ws j 0 ≤ most_weight
