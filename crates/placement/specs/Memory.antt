-- What a placing changes in the two memories.
use Rattle.std.specs.Prelude.{ℕ, ◌+◌, List, ◌≡◌}
use Rattle.rules.specs.Model.{Colour, Instance, Schedule, work_at}
use Rattle.rules.specs.Scheduling.{crossing_size, output_size}
use Rattle.rules.specs.Changes.{Change}
use Rattle.rules.specs.Staircase.{input_size, moves_in, own_changes, grouped_changes}
use Rattle.model.specs.declared.job.Job.{Job}
use Rattle.model.specs.declared.layout.Schedule.{Schedule as StoredSchedule}
use Rattle.model.specs.declared.trial.Trial.{Trial}
use Rattle.model.specs.Jobs.{instance_in, schedule_of}
use Rattle.model.specs.Colours.{as_colour}
use Rattle.placement.specs.declared.memory.Sizes.{Sizes}

-- the amounts of a trial's placing
pub record SizesOf (I : Instance) (P : Schedule) (t : Trial) (x : Sizes) : Type 0 where
  pub room : x.room ≡ output_size I t.task + work_at I t.task
  pub kept : x.kept ≡ input_size I t.task + work_at I t.task
  pub incoming : x.incoming ≡ crossing_size I P t.task (as_colour t.colour)

-- the changes of a trial's placing: the moves in of m files from the k-th on, all in its own memory, and those in memory d
abbrev pub moves_of : Job → StoredSchedule → Trial → ℕ → ℕ → List Change
moves_of j schedule t k m = moves_in (instance_in j) (schedule_of j schedule) t.task (as_colour t.colour) t.start k m

abbrev pub own_of : Job → StoredSchedule → Trial → List Change
own_of j schedule t = own_changes (instance_in j) (schedule_of j schedule) t.task (as_colour t.colour) t.start

abbrev pub changes_in : Colour → Job → StoredSchedule → Trial → List Change
changes_in d j schedule t = grouped_changes (instance_in j) (schedule_of j schedule) t.task (as_colour t.colour) t.start d
