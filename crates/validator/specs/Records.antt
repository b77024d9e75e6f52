-- The runs of a schedule as the records that are walked.
use Rattle.std.specs.Prelude.{ℕ, ◌<◌, ◌≡◌, List, get_or}
use Rattle.rules.specs.Model.{Instance, Schedule, run_at, start_at, finish_at}
use Rattle.runs.specs.declared.Run.{Run}
use Rattle.runs.specs.Overlaps.{no_run}

abbrev pub record_at : Instance → Schedule → ℕ → Run
record_at I P i = record { processor = (run_at P i).processor; start = start_at P i; finish = finish_at I P i }

-- the first n records of the list are the runs of the first n tasks
abbrev pub Records : Instance → Schedule → ℕ → List Run → Type 0
Records I P n l = (i : ℕ) → i < n → get_or l i no_run ≡ record_at I P i
