-- The instance and the schedules of a job, by index.
use Prim.Native.Nat.{ℕ, ◌+◌, ◌<◌}
use mathlib.Core.List.{List}
use mathlib.Core.Path.{◌≡◌, refl}
use lib.ListN.{length, get_or}
use Rattle.rules.specs.Model.{Schedule, task_at, task_count, file_at, file_count, limit_of, run_at, move_at, colour_of}
use Rattle.rules.specs.Validity.{Complete}
use Rattle.rules.specs.declared.Board.{Board}
use Rattle.rules.proofs.CountLaws.{get_or-list_below}
use Rattle.model.specs.declared.job.Job.{Job}
use Rattle.model.specs.declared.colour.Colour.{Colour}
use Rattle.model.specs.declared.colour.Colour.TheVariants.{Blue}
use Rattle.model.specs.declared.layout.Schedule.{Schedule as StoredSchedule}
use Rattle.model.specs.Colours.{as_colour, by_colour}
use Rattle.model.specs.Layout.{Entries, as_task, as_file, stored_task, stored_file, instance_of, entries_of, run_from, colour_at, OnBoard}
use Rattle.model.specs.Jobs.{instance_in, schedule_by, schedule_of, partial_on, partial_by, AllPlaced}
use Rattle.model.proofs.LayoutLaws as Lists

-- the last finish of each processor of a board
pub last-finish-on : (b : Board) (P : Schedule) (last : List ℕ) (p : ℕ) → p < b.blue.processors + b.red.processors
    → get_or (partial_on b P last).last_finish p 0 ≡ get_or last p 0
last-finish-on b P last p h = get_or-list_below (b.blue.processors + b.red.processors) (λ p. get_or last p 0) p 0 h

module _ (j : Job) where
  -- the job's instance is one on its board
  pub on-board : OnBoard j.board (instance_in j)
  unfolding instance_of
  on-board = record { blue = refl; red = refl }

  pub tasks-in : task_count (instance_in j) ≡ length j.tasks.now
  tasks-in = Lists.task-count j.board j.tasks.now j.files.now

  pub files-in : file_count (instance_in j) ≡ length j.files.now
  files-in = Lists.file-count j.board j.tasks.now j.files.now

  pub limit-in : (c : Colour) → limit_of (instance_in j) (as_colour c) ≡ by_colour c j.board.blue.limit j.board.red.limit
  limit-in = Lists.limit-of j.board j.tasks.now j.files.now

  pub task-in : (i : ℕ) → task_at (instance_in j) i ≡ as_task (stored_task j.tasks.now i)
  task-in = Lists.task-at j.board j.tasks.now j.files.now

  pub file-in : (k : ℕ) → file_at (instance_in j) k ≡ as_file (stored_file j.files.now k)
  file-in = Lists.file-at j.board j.tasks.now j.files.now

  -- ---- a schedule for it

  pub run-in : (L : Entries) (i : ℕ) → i < length j.tasks.now → run_at (schedule_by j L) i ≡ run_from L i
  run-in = Lists.run-at (length j.tasks.now) (length j.files.now)

  pub move-in : (L : Entries) (k : ℕ) → k < length j.files.now → move_at (schedule_by j L) k ≡ L.move_start k
  move-in = Lists.move-at (length j.tasks.now) (length j.files.now)

  pub last-finish-at : (L : Entries) (last : List ℕ) (p : ℕ) → p < j.board.blue.processors + j.board.red.processors
      → get_or (partial_by j L last).last_finish p 0 ≡ get_or last p 0
  last-finish-at L last = last-finish-on j.board (schedule_by j L) last

  pub colour-in : (L : Entries) (i : ℕ) → i < length j.tasks.now → colour_at j.board L i ≡ colour_of (instance_in j) (run_at (schedule_by j L) i)
  colour-in L i h = rw (run-in L i h, Lists.processors-of j.board j.tasks.now j.files.now Blue)

  -- a schedule whose tasks are all placed
  pub placed-complete : (xs : StoredSchedule) → AllPlaced j xs → Complete (instance_in j) (schedule_of j xs)
  placed-complete xs = Lists.placed-complete j.board j.tasks.now j.files.now (length j.files.now) (entries_of xs)
