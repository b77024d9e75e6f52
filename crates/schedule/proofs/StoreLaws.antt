-- The schedule read so far, with one run or one move more.
use Prim.Native.Nat.{ℕ, suc, ◌≤◌, ◌<◌}
use mathlib.Core.Path.{◌≡◌, ap}
use mathlib.Core.List.{List, []}
use native.Mathlib.Omega.{arith}
use Rattle.rules.specs.Count.{list_below}
use Rattle.rules.specs.Limits.{max_tasks, max_files}
use Rattle.rules.specs.Model.{Run, Schedule}
use Rattle.rules.specs.ScheduleText.{with_run, with_move}
use Rattle.model.specs.declared.layout.Schedule.{Schedule as StoredSchedule}
use Rattle.model.specs.Layout.{Entries, entries_of, run_from, WholeSchedule, with_run_at, with_move_at}
use Rattle.model.proofs.WriteLaws.{runs-stored, moves-stored}
use Rattle.schedule.specs.Reading.{runs_of}

-- the runs of the first n tasks, and the moves of the first m files
abbrev pub moves_of : ℕ → ℕ → Entries → Schedule
moves_of n m L = record { runs = list_below n (run_from L); moves = list_below m L.move_start }

module _ (xs : StoredSchedule) (long : WholeSchedule xs) where
  pub run-stored : {i : ℕ} → i < max_tasks → (p s : ℕ)
      → runs_of (suc i) (entries_of (with_run_at xs i p s)) ≡ with_run (runs_of i (entries_of xs)) (record { processor = p; start = s })
  run-stored h p s = ap (λ (l : List Run). record { runs = l; moves = [] }) (runs-stored xs (omega (arith, long.0)) p s)

  pub move-stored : {k : ℕ} → k < max_files → (t n : ℕ) → n ≤ max_tasks
      → moves_of n (suc k) (entries_of (with_move_at xs k t)) ≡ with_move (moves_of n k (entries_of xs)) t
  move-stored h t n few =
      ap (λ (m : List ℕ). record { runs = list_below n (run_from (entries_of xs)); moves = m }) (moves-stored xs (omega (arith, long.1)) t)
