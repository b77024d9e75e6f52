-- Order 6, working memory of a task: where W is held and that it is one more hold, what starts 3 and 4 ask for, the lines with W; and that sheets without W
-- give what they gave.
use Rattle.std.specs.Prelude.{ℕ, suc, ◌+◌, ◌^◌, ◌≤◌, ◌<◌, max, true, ◌≡◌, ◌↔◌, ◌⊎◌, List, [], ◌∷◌, set}
use Rattle.std.proofs.Math.Option.{some}
use Rattle.rules.specs.Limits.{max_digits, task_numbers, run_times, work_sizes, before_work}
use Rattle.rules.specs.Model.{Colour, Instance, limit_of, task_count, task_at, work_at, all_sizes, all_memory, NoWork, is_placed, Schedule, run_at, start_at}
use Rattle.rules.specs.Model.{colour_of, finish_at}
use Rattle.rules.specs.Residency.{is_work_held, files_held, held, files_horizon, horizon}
use Rattle.rules.specs.Validity.{Verdict, refused_by}
use Rattle.rules.specs.Scheduling.{Partial, crossing_size, output_size, crossing_time, processor_start, input_start, latest, delayed, free_from}
use Rattle.rules.specs.Scheduling.{aware, memory_start, earliest_start, Planner}
use Rattle.rules.specs.Text.{Line, ended, wrong, right, out_of_range, scan, fill}
use Rattle.rules.specs.InstanceText.{work_form, task_line, instance_line, accepted, read_instance_by, read_instance}
use Rattle.rules.specs.Calls.{mark_by, mark, Answer, plan_by, plan}
use Rattle.rules.specs.Simulation.{run_turns, task_turns, Simulation, simulate_by, simulate}
use Rattle.rules.specs.Promises.{In, First}
use Rattle.rules.specs.FinerTicks.{line_behind}

-- ---- where W is held

-- until when a run that starts at s and finishes at f keeps its W: until f, or until s + 1 if it takes no time
pub data KeepsUntil (s f t : ℕ) : Type 0 where
  by_finish : t < f → KeepsUntil s f t
  of_relay : f ≡ s → t ≡ s → KeepsUntil s f t

-- memory c holds the W of task i at tick t: the task is placed and has W, its run is in that memory, has started, and keeps it still
pub record WorkIsHeld (I : Instance) (P : Schedule) (c : Colour) (t i : ℕ) : Type 0 where
  pub placed : is_placed (run_at P i) ≡ true
  pub has : 0 < work_at I i
  pub memory : colour_of I (run_at P i) ≡ c
  pub begun : start_at P i ≤ t
  pub kept : KeepsUntil (start_at P i) (finish_at I P i) t

-- Not: W freed at the start; W held in both memories, or in the other; W of a relay held for no tick. It fixes where each W is held
abbrev pub WorkHeldLaw : Type 0
WorkHeldLaw = (I : Instance) (P : Schedule) (c : Colour) (t i : ℕ) → (is_work_held I P c t i ≡ true) ↔ WorkIsHeld I P c t i

-- the job with another W for task i
abbrev pub with_work : Instance → ℕ → ℕ → Instance
with_work I i w = record {
  blue_side = I.blue_side;
  red_side = I.red_side;
  tasks = set I.tasks i (record { on_blue = (task_at I i).on_blue; on_red = (task_at I i).on_red; work = w });
  files = I.files;
}

-- W is one more hold: a task that had none is given w. Then a memory holds w more while it holds that W, and what it held at every other instant
pub record OneMoreHold (I : Instance) (i w : ℕ) (P : Schedule) (c : Colour) (t : ℕ) : Type 0 where
  pub more : WorkIsHeld (with_work I i w) P c t i → held (with_work I i w) P c t ≡ held I P c t + w
  pub same : (WorkIsHeld (with_work I i w) P c t i → ⊥) → held (with_work I i w) P c t ≡ held I P c t

-- Not: W counted nowhere; the greatest W for all of them; W in place of a file. With FilesAloneLaw it fixes what is held, and so peaks, limits and 17
abbrev pub WorkCounts : Type 0
WorkCounts = (I : Instance) (i w : ℕ) → i < task_count I → work_at I i ≡ 0 → (P : Schedule) (c : Colour) (t : ℕ) → OneMoreHold I i w P c t

-- ---- the starts

-- from tick s on memory c always has so much free
abbrev pub FreeFrom : Instance → Schedule → Colour → ℕ → ℕ → Type 0
FreeFrom I P c need s = (u : ℕ) → s ≤ u → held I P c u + need ≤ limit_of I c

-- s is the greatest of the four starts. Start 3 asks for W besides the files, start 4 does not
pub record FourStarts (I : Instance) (Q : Partial) (i : ℕ) (c : Colour) (s : ℕ) : Type 0 where
  pub third : ℕ
  pub fourth : ℕ
  pub enough : First (FreeFrom I Q.schedule c (crossing_size I Q.schedule i c + output_size I i + work_at I i)) third
  pub entering : First (FreeFrom I Q.schedule c (crossing_size I Q.schedule i c)) fourth
  pub greatest : s ≡ max (max (processor_start I Q c) (input_start I Q.schedule i c)) (max third (fourth + crossing_time I Q.schedule i c))

-- a task fits with that earliest start.
-- Not: start 3 without W; start 4 with it; the greatest C left out of start 4. It fixes each trial of a memory-aware planner; PlainStart those of a plain one
abbrev pub EarliestLaw : Type 0
EarliestLaw = (I : Instance) (Q : Partial) (i : ℕ) (c : Colour) (s : ℕ) → (earliest_start aware I Q i c ≡ some s) ↔ FourStarts I Q i c s

-- ---- the lines with W

-- numbers of at most twelve digits
abbrev pub Short : ℕ → Type 0
Short n = n < 10 ^ max_digits

pub record AllInRange (i b r w : ℕ) : Type 0 where
  pub task : In task_numbers i
  pub on_blue : In run_times b
  pub on_red : In run_times r
  pub work : In work_sizes w

-- a line of the form with W and of such numbers is read, with these, exactly if each is in its range, and is 3 otherwise
pub record WorkLine (i b r w : ℕ) : Type 0 where
  pub readable :
      (instance_line (ended (fill work_form (i ∷ b ∷ r ∷ w ∷ []))) ≡ right (task_line i (record { on_blue = b; on_red = r; work = w }))) ↔ AllInRange i b r w
  pub otherwise : (AllInRange i b r w → ⊥) → instance_line (ended (fill work_form (i ∷ b ∷ r ∷ w ∷ []))) ≡ wrong out_of_range

-- Not: W of 1000001 read; W in place of R; W forgotten. It fixes the reading of these lines
abbrev pub WorkLines : Type 0
WorkLines = (i b r w : ℕ) → Short i → Short b → Short r → Short w → WorkLine i b r w

-- a written 0 is 3, whatever the other numbers. Not: read as left out. Alone it is met by 3 for every W; WorkLines rules that out
abbrev pub WrittenZero : Type 0
WrittenZero = (i b r : ℕ) → Short i → Short b → Short r → instance_line (ended (fill work_form (i ∷ b ∷ r ∷ 0 ∷ []))) ≡ wrong out_of_range

-- ---- sheets without W give what they gave

-- The rules below are the present ones with a reader that does not know the form with W (`before_work`). What stands behind that reader is, without W, what it was:
-- FilesAloneLaw.

-- a line has its LF and the form with W
pub record HasWork (l : Line) : Type 0 where
  pub bytes : List ℕ
  pub is_ended : l ≡ ended bytes
  pub numbers : List ℕ
  pub has_form : scan work_form bytes ≡ some numbers

-- a mark by that reader that refuses a line for this form: by 2
pub record RefusedForWork (sheet : List ℕ) (v : Verdict) : Type 0 where
  pub line : ℕ
  pub has : HasWork (line_behind sheet line)
  pub refusal : v ≡ refused_by 2 (suc line)

-- the mark v is the one by that reader, or that one refuses a line for the form with W
abbrev pub MarkBeforeWork : List ℕ → List ℕ → Verdict → Type 0
MarkBeforeWork sheet timetable v = (v ≡ mark_by before_work sheet timetable) ⊎ RefusedForWork sheet (mark_by before_work sheet timetable)

-- Not: a line of the three forms read otherwise; another place for an old fault. Alone it is met by a marker that does not know W; ChangedForWork rules that out
abbrev pub MarksBeforeWork : Type 0
MarksBeforeWork = (sheet timetable : List ℕ) → MarkBeforeWork sheet timetable (mark sheet timetable)

-- and each of those has another mark now. Not: a line with W refused by 2. Alone it is met by a marker that changes every mark; MarksBeforeWork rules that out
abbrev pub ChangedForWork : Type 0
ChangedForWork =
    (sheet timetable : List ℕ) → RefusedForWork sheet (mark_by before_work sheet timetable) → mark sheet timetable ≡ mark_by before_work sheet timetable → ⊥

-- the same of a planner's answer a, and of the simulator's
abbrev pub PlanBeforeWork : Planner → List ℕ → List ℕ → Answer → Type 0
PlanBeforeWork R sheet buffer a =
    let b = plan_by before_work R sheet buffer in
    (a ≡ b) ⊎ RefusedForWork sheet (refused_by b.number b.place)

abbrev pub SimulationBeforeWork : List ℕ → List ℕ → ℕ → ℕ → Simulation → Type 0
SimulationBeforeWork sheet timetable made steps a =
    (a ≡ simulate_by before_work sheet timetable made steps) ⊎ RefusedForWork sheet (mark_by before_work sheet timetable)

-- Not: another plan, or another state, for a sheet without W. Alone each is met by the call that does not know W; PlannerExact and SimulatorLaw rule that out
abbrev pub PlansBeforeWork : Type 0
PlansBeforeWork = (R : Planner) (sheet buffer : List ℕ) → PlanBeforeWork R sheet buffer (plan R sheet buffer)

abbrev pub SimulationsBeforeWork : Type 0
SimulationsBeforeWork = (sheet timetable : List ℕ) (made steps : ℕ) → SimulationBeforeWork sheet timetable made steps (simulate sheet timetable made steps)

-- so on a sheet none of whose lines has the form with W all answers are those by that reader
pub record SameAnswers (sheet : List ℕ) : Type 0 where
  pub marks : (timetable : List ℕ) → mark sheet timetable ≡ mark_by before_work sheet timetable
  pub plans : (R : Planner) (buffer : List ℕ) → plan R sheet buffer ≡ plan_by before_work R sheet buffer
  pub simulations : (timetable : List ℕ) (made steps : ℕ) → simulate sheet timetable made steps ≡ simulate_by before_work sheet timetable made steps

-- Not: an answer that changes on such a sheet
abbrev pub WithoutWork : Type 0
WithoutWork = (sheet : List ℕ) → ((n : ℕ) → HasWork (line_behind sheet n) → ⊥) → SameAnswers sheet

-- a job that such a reader reads has no W. Not: a line read with a W of its own. Alone it is met by a reader that accepts nothing; MarksBeforeWork rules that out
abbrev pub ReadsNoWork : Type 0
ReadsNoWork = (sheet : List ℕ) (I : Instance) → read_instance_by before_work sheet ≡ accepted I → NoWork I

-- and a job without W is read by such a reader as it is now, so that all answers to its sheet are the same.
-- Not: a sheet of a job without W refused. Alone each is met by a reader that accepts nothing now; SheetExact rules that out
abbrev pub ReadsOlder : Type 0
ReadsOlder = (sheet : List ℕ) (I : Instance) → read_instance sheet ≡ accepted I → NoWork I → read_instance_by before_work sheet ≡ accepted I

abbrev pub SameOlder : Type 0
SameOlder = (sheet : List ℕ) (I : Instance) → read_instance sheet ≡ accepted I → NoWork I → SameAnswers sheet

-- and of a job without W all that the order changed behind the reading is as files alone have it: what a memory holds and when it changes no more, how much
-- is ample, starts 3 and 4, and the simulator's ticks
pub record FilesAlone (I : Instance) (P : Schedule) (c : Colour) : Type 0 where
  pub total : (t : ℕ) → held I P c t ≡ files_held I P c t
  pub settled : horizon I P c ≡ files_horizon I P c
  pub ample : all_memory I ≡ all_sizes I
  pub starts : (i : ℕ) →
      memory_start aware I P i c
      ≡ latest (free_from I P c (crossing_size I P i c + output_size I i)) (delayed (free_from I P c (crossing_size I P i c)) (crossing_time I P i c))
  pub turns : (t i : ℕ) → task_turns I P t i ≡ run_turns I P t i

-- Not: a W of 0 held for a tick, or with a tick of its own. Alone it is met by a W that counts nowhere; WorkCounts rules that out
abbrev pub FilesAloneLaw : Type 0
FilesAloneLaw = (I : Instance) → NoWork I → (P : Schedule) (c : Colour) → FilesAlone I P c
