-- The rules' instance and schedule, made of a board and the lists and arrays of the code, and what the code asks of these.
use Rattle.std.specs.Prelude.{ℕ, ◌+◌, ◌*◌, ◌≤◌, ◌<◌, cond, ◌≡◌, List, [], length, leb, get_or, set, map, replicate}
use Rattle.rules.specs.Count.{list_below}
use Rattle.rules.specs.Limits.{max_tasks, max_files, processor_counts, all_processors, memory_limits, run_times, move_times, file_sizes, work_sizes, ticks}
use Rattle.rules.specs.Model as Rules
use Rattle.rules.specs.Model.{Instance, Schedule, Task, File, Run}
use Rattle.rules.specs.BoardType.{side_from}
use Rattle.rules.specs.Promises.{In}
use Rattle.rules.specs.declared.Board.{Board}
use Rattle.model.specs.declared.layout.Task.{Task as StoredTask}
use Rattle.model.specs.declared.layout.File.{File as StoredFile}
use Rattle.model.specs.declared.layout.Numbers.{Numbers}
use Rattle.model.specs.declared.layout.Run.{Run as StoredRun}
use Rattle.model.specs.declared.layout.Schedule.{Schedule as StoredSchedule}
use Rattle.model.specs.declared.colour.Colour.{Colour}
use Rattle.model.specs.Colours.{by_colour}

-- ---- what stands where

-- a task and a file of the code, as the rules have them
abbrev pub as_task : StoredTask → Task
as_task t = record { on_blue = t.on_blue; on_red = t.on_red; work = t.work }

abbrev pub as_file : StoredFile → File
as_file f = record { maker = f.maker; reader = f.reader; size = f.size; move_time = f.move_time }

-- task i and file k of a list
abbrev pub stored_task : List StoredTask → ℕ → StoredTask
stored_task ts i = get_or ts i (record { on_blue = 0; on_red = 0; work = 0 })

abbrev pub stored_file : List StoredFile → ℕ → StoredFile
stored_file fs k = get_or fs k (record { maker = 0; reader = 0; size = 0; move_time = 0 })

-- the processor and the start of each task, and the move start of each file
pub record Entries : Type 0 where
  pub processor : ℕ → ℕ
  pub start : ℕ → ℕ
  pub move_start : ℕ → ℕ

abbrev pub stored_run : StoredSchedule → ℕ → StoredRun
stored_run xs i = get_or xs.runs i (record { processor = 0; start = 0 })

abbrev pub entries_of : StoredSchedule → Entries
entries_of xs = record {
  processor = λ i. (stored_run xs i).processor;
  start = λ i. (stored_run xs i).start;
  move_start = λ k. get_or xs.moves k 0;
}

-- ---- what is stored with one run or move start written

abbrev pub with_run_at : StoredSchedule → ℕ → ℕ → ℕ → StoredSchedule
with_run_at xs i processor start = record { runs = set xs.runs i (record { processor = processor; start = start }); moves = xs.moves }

abbrev pub with_move_at : StoredSchedule → ℕ → ℕ → StoredSchedule
with_move_at xs k start = record { runs = xs.runs; moves = set xs.moves k start }

-- each array is as long as its type says
abbrev pub WholeSchedule : StoredSchedule → Type 0
WholeSchedule xs = (length xs.runs ≡ max_tasks) × (length xs.moves ≡ max_files)

-- no task and no file; no task placed, and each move start 0
abbrev pub no_numbers : Numbers
no_numbers = record { tasks = record { items = [] }; files = record { items = [] } }

abbrev pub unplaced : StoredSchedule
unplaced = record { runs = replicate max_tasks (record { processor = 0; start = 0 }); moves = replicate max_files 0 }

-- ---- the rules' instance and schedule

unfoldable pub instance_of : Board → List StoredTask → List StoredFile → Instance
instance_of b ts fs = record { blue_side = side_from b.blue; red_side = side_from b.red; tasks = map as_task ts; files = map as_file fs }

-- the same of what a reader leaves
abbrev pub instance_with : Board → Numbers → Instance
instance_with b xs = instance_of b xs.tasks.items xs.files.items

-- the instance is one on the board, of whatever tasks and files
pub record OnBoard (b : Board) (I : Instance) : Type 0 where
  pub blue : I.blue_side ≡ side_from b.blue
  pub red : I.red_side ≡ side_from b.red

abbrev pub run_from : Entries → ℕ → Run
run_from L i = record { processor = L.processor i; start = L.start i }

-- of n tasks and m files
unfoldable pub schedule_from : ℕ → ℕ → Entries → Schedule
schedule_from n m L = record { runs = list_below n (run_from L); moves = list_below m (λ k. L.move_start k) }

-- the colour that task i runs on
abbrev pub colour_at : Board → Entries → ℕ → Rules.Colour
colour_at b L i = cond (leb (L.processor i) b.blue.processors) Rules.blue Rules.red

-- the processors of the colour
abbrev pub count_in : Board → Colour → ℕ
count_in b c = by_colour c b.blue.processors b.red.processors

-- ---- what the code asks of the lists and arrays: every number in its range

-- each of the first n numbers is at most m
abbrev pub Bounded : ℕ → ℕ → (ℕ → ℕ) → Type 0
Bounded m n f = (k : ℕ) → k < n → f k ≤ m

-- the processors of each colour are as many as a board can have
pub record Processors (b : Board) : Type 0 where
  pub blue : In processor_counts b.blue.processors
  pub red : In processor_counts b.red.processors

pub record JobBounds (b : Board) (ts : List StoredTask) (fs : List StoredFile) : Type 0 where
  pub tasks : length ts ≤ max_tasks
  pub files : length fs ≤ max_files
  pub processors : Processors b
  pub blue_limit : b.blue.limit ≤ memory_limits.most
  pub red_limit : b.red.limit ≤ memory_limits.most
  pub on_blue : Bounded run_times.most (length ts) (λ i. (stored_task ts i).on_blue)
  pub on_red : Bounded run_times.most (length ts) (λ i. (stored_task ts i).on_red)
  pub work : Bounded work_sizes.most (length ts) (λ i. (stored_task ts i).work)
  pub maker : (k : ℕ) → k < length fs → (stored_file fs k).maker < length ts
  pub reader : (k : ℕ) → k < length fs → (stored_file fs k).reader < length ts
  pub size : Bounded file_sizes.most (length fs) (λ k. (stored_file fs k).size)
  pub move_time : (k : ℕ) → k < length fs → In move_times (stored_file fs k).move_time

-- of n tasks and m files
pub record ScheduleBounds (n m : ℕ) (L : Entries) : Type 0 where
  pub start : Bounded ticks.most n L.start
  pub move_start : Bounded ticks.most m L.move_start

-- no finish, no release and no end of a move is later
abbrev pub last_tick : ℕ
last_tick = ticks.most + run_times.most + move_times.most

-- no earliest start is later
abbrev pub last_start : ℕ
last_start = last_tick + move_times.most

-- no finish of a run that starts at an earliest start is later
abbrev pub latest_finish : ℕ
latest_finish = last_start + run_times.most

-- no total of file sizes is greater, none of working memory, and none of both
abbrev pub most_files : ℕ
most_files = file_sizes.most * max_files

abbrev pub most_work : ℕ
most_work = work_sizes.most * max_tasks

abbrev pub most_held : ℕ
most_held = most_files + most_work

-- no last finish of a processor is later
pub record LastBounds (last : List ℕ) : Type 0 where
  pub whole : length last ≡ all_processors
  pub each : (p : ℕ) → get_or last p 0 ≤ last_tick

-- none of a processor of the board is later
abbrev pub LastBoundsOn : Board → List ℕ → Type 0
LastBoundsOn b last = Bounded last_tick (b.blue.processors + b.red.processors) (λ p. get_or last p 0)

-- every one of n tasks is placed
abbrev pub Placed : ℕ → Entries → Type 0
Placed n L = (i : ℕ) → i < n → 0 < L.processor i
