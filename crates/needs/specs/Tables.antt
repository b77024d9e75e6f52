-- When the needs of all tasks are right for a partial timetable.
use Rattle.std.specs.Prelude.{ℕ, ◌≤◌, ◌<◌, true, false, ◌≢◌, ◌≡◌, get_or}
use Rattle.rules.specs.Model.{Instance, Schedule, task_count, file_count}
use Rattle.rules.specs.Scheduling.{reads, makes}
use Rattle.needs.specs.declared.table.Need.{Need}
use Rattle.needs.specs.declared.table.Needs.{Needs}
use Rattle.needs.specs.Needs.{no_need, Sized, Admitted}

-- task i's
abbrev pub need_at : Needs → ℕ → Need
need_at xs i = get_or xs.tasks i no_need

-- every other task's is as it was
abbrev pub SameBut : ℕ → Needs → Needs → Type 0
SameBut i xs ys = (j : ℕ) → j ≢ i → need_at ys j ≡ need_at xs j

-- they are right for the partial timetable P
pub record Right (I : Instance) (P : Schedule) (xs : Needs) : Type 0 where
  pub sized : (i : ℕ) → i < task_count I → Sized I i (need_at xs i)
  pub admitted : (i : ℕ) → i < task_count I → Admitted I P i (need_at xs i)

-- task j reads nothing that task i makes, of the files from the n-th on
abbrev pub ReadsNone : Instance → ℕ → ℕ → ℕ → Type 0
ReadsNone I i n j = (k : ℕ) → n ≤ k → k < file_count I → makes I i k ≡ true → reads I j k ≡ false

-- right but for task i and the readers of what it makes: what is left of right needs when i is placed
pub record RightBut (I : Instance) (P : Schedule) (i : ℕ) (xs : Needs) : Type 0 where
  pub sized : (j : ℕ) → j < task_count I → Sized I j (need_at xs j)
  pub admitted : (j : ℕ) → j < task_count I → j ≢ i → ReadsNone I i 0 j → Admitted I P j (need_at xs j)
