-- Order 7: a board sheet for readers that lack working memory, and what is left of a timetable of that sheet.
use Rattle.std.specs.Prelude.{ℕ, ◌+◌, Bool, cond, List, ◌++◌, map, length, get_or, drop, replicate, ltb}
use Rattle.rules.specs.Count.{list_below, list_where}
use Rattle.rules.specs.Limits.{max_tasks, max_files}
use Rattle.rules.specs.Model.{Task, File, Instance, task_count, file_count, work_at, Schedule, run_at}
use Rattle.rules.specs.Text.{in_sheet, fault_number}
use Rattle.rules.specs.InstanceText.{refused, accepted, read_instance, instance_text}
use Rattle.rules.specs.Calls.{Answer, written, plan_text}

-- ---- the converted job

-- task i has W
abbrev pub has_work : Instance → ℕ → Bool
has_work I i = ltb 0 (work_at I i)

-- the tasks with W, in their order
abbrev pub served : Instance → List ℕ
served I = list_where (task_count I) (has_work I)

-- document 02's m: how many they are, and so how many tasks are added
abbrev pub added_count : Instance → ℕ
added_count I = length (served I)

-- the task that the added task k serves
abbrev pub served_at : Instance → ℕ → ℕ
served_at I k = get_or (served I) k 0

-- an added task, document 02's fictitious maker: times 0 and 0
abbrev pub added_task : Task
added_task = record { on_blue = 0; on_red = 0; work = 0 }

-- the file that the added task k makes: of size W and move time 1, for the task that it serves
abbrev pub added_file : Instance → ℕ → File
added_file I k = record { maker = k; reader = added_count I + served_at I k; size = work_at I (served_at I k); move_time = 1 }

abbrev pub without_work : Task → Task
without_work a = record { on_blue = a.on_blue; on_red = a.on_red; work = 0 }

-- a file with both its tasks shifted by m
abbrev pub shifted_by : ℕ → File → File
shifted_by m f = record { maker = m + f.maker; reader = m + f.reader; size = f.size; move_time = f.move_time }

-- the added tasks and files first; the old ones follow, shifted and without W
unfoldable pub converted : Instance → Instance
converted I = record {
  blue_side = I.blue_side;
  red_side = I.red_side;
  tasks = replicate (added_count I) added_task ++ map without_work I.tasks;
  files = list_below (added_count I) (added_file I) ++ map (shifted_by (added_count I)) I.files;
}

-- the converted sheet
abbrev pub converted_text : Instance → List ℕ
converted_text I = instance_text (converted I)

-- ---- what is left of a timetable of the converted job

-- without the added runs and moves, which come first; the old ones so have their old numbers
unfoldable pub stripped : Instance → Schedule → Schedule
stripped I P = record { runs = drop (added_count I) P.runs; moves = drop (added_count I) P.moves }

-- its due lines, with the claim worked out afresh
abbrev pub stripped_text : Instance → Schedule → List ℕ
stripped_text I P = plan_text I (stripped I P)

-- a timetable of the original as one of the converted job: each added task runs on the processor and at the start of the task that it serves
unfoldable pub extended : Instance → Schedule → Schedule
extended I P = record {
  runs = list_below (added_count I) (λ k. run_at P (served_at I k)) ++ P.runs;
  moves = replicate (added_count I) 0 ++ P.moves;
}

-- ---- the call

-- the answer of a call that writes one text, and what the lent buffer then holds
pub record Output : Type 0 where
  pub number : ℕ
  pub place : ℕ
  pub buffer : List ℕ

abbrev pub unwritten : ℕ → ℕ → List ℕ → Output
unwritten n k buffer = record { number = n; place = k; buffer = buffer }

-- a planner's answer, without trials
abbrev pub without_trials : Answer → Output
without_trials a = record { number = a.number; place = a.place; buffer = a.buffer }

-- success or 31, answered as a planner's
abbrev pub output : List ℕ → List ℕ → Output
output text buffer = without_trials (written text buffer 0)

-- 41 if over 64 tasks result, then 42 if over 256 files do
abbrev pub if_convertible : Instance → List ℕ → Output → Output
if_convertible I buffer a =
    cond (ltb max_tasks (task_count (converted I))) (unwritten 41 0 buffer)
    (cond (ltb max_files (file_count (converted I))) (unwritten 42 0 buffer) a)

-- the converter behind an accepted sheet, and on a sheet
abbrev pub convert_on : Instance → List ℕ → Output
convert_on I buffer = if_convertible I buffer (output (converted_text I) buffer)

unfoldable pub convert : List ℕ → List ℕ → Output
convert sheet buffer =
    elim (read_instance sheet) [
      | refused w k ↦ unwritten (fault_number in_sheet w) k buffer
      | accepted I ↦ convert_on I buffer
    ]
