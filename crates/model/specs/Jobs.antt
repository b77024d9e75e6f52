-- The rules' instance of a job, and their schedule of a timetable.
use Rattle.std.specs.Prelude.{ℕ, ◌+◌, List, length, get_or}
use Rattle.rules.specs.Count.{list_below}
use Rattle.rules.specs.Model.{Instance, Schedule}
use Rattle.rules.specs.Scheduling.{Partial}
use Rattle.rules.specs.declared.Board.{Board}
use Rattle.model.specs.declared.job.Job.{Job}
use Rattle.model.specs.declared.timetable.Timetable.{Timetable}
use Rattle.model.specs.declared.layout.Schedule.{Schedule as StoredSchedule}
use Rattle.model.specs.Layout.{Entries, entries_of, instance_of, schedule_from, ScheduleBounds, Placed}

abbrev pub instance_in : Job → Instance
instance_in j = instance_of j.board j.tasks.now j.files.now

-- a schedule for the job
abbrev pub schedule_by : Job → Entries → Schedule
schedule_by j L = schedule_from (length j.tasks.now) (length j.files.now) L

abbrev pub schedule_of : Job → StoredSchedule → Schedule
schedule_of j xs = schedule_by j (entries_of xs)

abbrev pub schedule_in : Timetable → Schedule
schedule_in t = schedule_of t.job t.schedule.now

-- every number of a schedule for the job is in its range
abbrev pub ScheduleInBounds : Job → StoredSchedule → Type 0
ScheduleInBounds j xs = ScheduleBounds (length j.tasks.now) (length j.files.now) (entries_of xs)

-- every task of the job is placed
abbrev pub AllPlaced : Job → StoredSchedule → Type 0
AllPlaced j xs = Placed (length j.tasks.now) (entries_of xs)

-- the last finish of each processor of a board, blue ones first, beside a schedule
abbrev pub partial_on : Board → Schedule → List ℕ → Partial
partial_on b P last = record {
  schedule = P;
  last_finish = list_below (b.blue.processors + b.red.processors) (λ p. get_or last p 0);
}

abbrev pub partial_by : Job → Entries → List ℕ → Partial
partial_by j L last = partial_on j.board (schedule_by j L) last

abbrev pub partial_of : Job → StoredSchedule → List ℕ → Partial
partial_of j xs last = partial_by j (entries_of xs) last
