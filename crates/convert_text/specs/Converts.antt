-- What converting a job's numbers comes to, and what stripping leaves.
use Rattle.std.specs.Prelude.{ℕ, ◌+◌, List, ◌≡◌, Result, Ok, Err}
use Rattle.rules.specs.Model.{Instance, Schedule, task_count, file_count}
use Rattle.rules.specs.Conversion.{Output, added_count, converted, stripped, unwritten, if_convertible}
use Rattle.rules.specs.ConversionPromises.{Convertible}
use Rattle.rules.specs.declared.Board.{Board}
use Rattle.rules.specs.declared.refusal.Refusal.{Refusal}
use Rattle.rules.specs.Refusals.{refusal_number, refusal_place}
use Rattle.model.specs.declared.layout.Numbers.{Numbers}
use Rattle.model.specs.declared.layout.Schedule.{Schedule as StoredSchedule}
use Rattle.model.specs.Layout.{instance_with, entries_of, schedule_from}

-- the numbers are those of the converted job, on its board
pub record Converted (b : Board) (I : Instance) (wide : Numbers) : Type 0 where
  pub convertible : Convertible I
  pub is_converted : instance_with b wide ≡ converted I

-- or the job is refused: so is then whatever answers a job that can be converted
abbrev pub Converts : Board → Instance → Result Unit Refusal → Numbers → Type 0
Converts b I (Ok u) wide = Converted b I wide
Converts b I (Err r) wide =
    (buffer : List ℕ) (a : Output) → unwritten (refusal_number r) (refusal_place r) buffer ≡ if_convertible I buffer a

-- a stored schedule as one of the converted job
abbrev pub wide_schedule : Instance → StoredSchedule → Schedule
wide_schedule I xs = schedule_from (added_count I + task_count I) (added_count I + file_count I) (entries_of xs)

-- what is left of it, for the job itself
abbrev pub left_in : Instance → StoredSchedule → Schedule
left_in I xs = stripped I (wide_schedule I xs)
