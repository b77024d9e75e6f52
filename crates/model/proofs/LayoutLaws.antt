-- What the instance and the schedule of the lists and arrays are, by index, and the bounds of a well-formed instance's lists.
use Prim.Native.Nat.{ℕ, ◌≤◌, ◌<◌}
use mathlib.Core.List.{List}
use mathlib.Core.Path.{◌≡◌, refl, ap}
use native.Mathlib.Omega.{arith}
use borrow.Author.Tests.{le-leb, lt-leb, lt-ltb}
use lib.ListN.{length, get_or-map}
use Rattle.std.proofs.lemmas.List.{length-map}
use Rattle.rules.specs.Model.{blue, red, Instance, Task, file_at, file_count, task_at, task_count, limit_of, side_of, time_on}
use Rattle.rules.specs.Model.{run_at, start_at, move_at}
use Rattle.rules.specs.Limits.{processor_counts, run_times, work_sizes}
use Rattle.rules.specs.Promises.{In, WellFormed}
use Rattle.rules.specs.Validity.{Complete}
use Rattle.rules.specs.declared.Board.{Board}
use Rattle.rules.proofs.CountLaws.{get_or-list_below}
use Rattle.model.specs.declared.layout.Task.{Task as StoredTask}
use Rattle.model.specs.declared.layout.File.{File as StoredFile}
use Rattle.model.specs.declared.colour.Colour.{Colour}
use Rattle.model.specs.declared.colour.Colour.TheVariants.{Blue, Red}
use Rattle.model.specs.Colours.{as_colour, by_colour}
use Rattle.model.specs.Layout.{Entries, as_task, as_file, stored_task, stored_file, run_from, instance_of, schedule_from, colour_at, count_in}
use Rattle.model.specs.Layout.{OnBoard, JobBounds, Placed}

pub time-by : (x : Colour) (a : Task) → time_on (as_colour x) a ≡ by_colour x a.on_blue a.on_red
time-by Blue a = refl
time-by Red a = refl

-- ---- the instance
module _ (b : Board) (ts : List StoredTask) (fs : List StoredFile) where
  pub file-count : file_count (instance_of b ts fs) ≡ length fs
  unfolding instance_of
  file-count = length-map fs as_file

  pub task-count : task_count (instance_of b ts fs) ≡ length ts
  unfolding instance_of
  task-count = length-map ts as_task

  pub file-at : (k : ℕ) → file_at (instance_of b ts fs) k ≡ as_file (stored_file fs k)
  unfolding instance_of
  file-at k = get_or-map as_file fs k _

  pub task-at : (i : ℕ) → task_at (instance_of b ts fs) i ≡ as_task (stored_task ts i)
  unfolding instance_of
  task-at i = get_or-map as_task ts i _

  pub limit-of : (c : Colour) → limit_of (instance_of b ts fs) (as_colour c) ≡ by_colour c b.blue.limit b.red.limit
  unfolding instance_of
  limit-of Blue = refl
  limit-of Red = refl

  pub processors-of : (c : Colour) → (side_of (instance_of b ts fs) (as_colour c)).processors ≡ count_in b c
  unfolding instance_of
  processors-of Blue = refl
  processors-of Red = refl

  pub maker-at : (k : ℕ) → (file_at (instance_of b ts fs) k).maker ≡ (stored_file fs k).maker
  maker-at k = ap (λ f. f.maker) (file-at k)

  pub reader_at : (k : ℕ) → (file_at (instance_of b ts fs) k).reader ≡ (stored_file fs k).reader
  reader_at k = ap (λ f. f.reader) (file-at k)

-- ---- any instance on a board
module _ {b : Board} {I : Instance} (on : OnBoard b I) where
  pub processors-on : (c : Colour) → (side_of I (as_colour c)).processors ≡ count_in b c
  processors-on Blue = ap (λ s. s.processors) on.blue
  processors-on Red = ap (λ s. s.processors) on.red

  pub limit-on : (c : Colour) → limit_of I (as_colour c) ≡ by_colour c b.blue.limit b.red.limit
  limit-on Blue = ap (λ s. s.limit) on.blue
  limit-on Red = ap (λ s. s.limit) on.red

-- ---- the schedule of n tasks and m files

module _ (n m : ℕ) (L : Entries) where
  pub run-at : (i : ℕ) → i < n → run_at (schedule_from n m L) i ≡ run_from L i
  unfolding schedule_from
  run-at i h = get_or-list_below n (run_from L) i _ h

  pub processor-at : (i : ℕ) → i < n → (run_at (schedule_from n m L) i).processor ≡ L.processor i
  processor-at i h = ap (λ r. r.processor) (run-at i h)

  pub start-at : (i : ℕ) → i < n → start_at (schedule_from n m L) i ≡ L.start i
  start-at i h = ap (λ r. r.start) (run-at i h)

  pub move-at : (k : ℕ) → k < m → move_at (schedule_from n m L) k ≡ L.move_start k
  unfolding schedule_from
  move-at k h = get_or-list_below m (λ k. L.move_start k) k 0 h

-- the colour of a run, by its processor
module _ (b : Board) (L : Entries) {i p : ℕ} (e : p ≡ L.processor i) where
  pub colour-blue : p ≤ b.blue.processors → blue ≡ colour_at b L i
  colour-blue l = rw (le-leb (L.processor i) b.blue.processors (omega (arith, e)))

  pub colour-red : b.blue.processors < p → red ≡ colour_at b L i
  colour-red l = rw (lt-leb (L.processor i) b.blue.processors (omega (arith, e)))

-- ---- the lists of a well-formed instance are in their bounds
module _ (b : Board) (ts : List StoredTask) (fs : List StoredFile) (w : WellFormed (instance_of b ts fs)) where
  abbrev I : Instance
  I = instance_of b ts fs

  task-in : {i : ℕ} → i < length ts → i < task_count I
  task-in h = omega (arith, task-count b ts fs)

  file-in : {k : ℕ} → k < length fs → k < file_count I
  file-in h = omega (arith, file-count b ts fs)

  blue-in : In processor_counts b.blue.processors
  unfolding instance_of
  blue-in = w.processors blue

  red-in : In processor_counts b.red.processors
  unfolding instance_of
  red-in = w.processors red

  blue-time : (i : ℕ) → i < length ts → (stored_task ts i).on_blue ≤ run_times.most
  blue-time i h = omega (arith, (w.times blue i (task-in h)).most, ap (λ a. a.on_blue) (task-at b ts fs i))

  red-time : (i : ℕ) → i < length ts → (stored_task ts i).on_red ≤ run_times.most
  red-time i h = omega (arith, (w.times red i (task-in h)).most, ap (λ a. a.on_red) (task-at b ts fs i))

  work_in : (i : ℕ) → i < length ts → (stored_task ts i).work ≤ work_sizes.most
  work_in i h = omega (arith, w.work i (task-in h), ap (λ a. a.work) (task-at b ts fs i))

  pub job-bounds : JobBounds b ts fs
  job-bounds = record {
    tasks = omega (arith, task-count b ts fs, w.tasks.most);
    files = omega (arith, file-count b ts fs, w.files);
    processors = record { blue = blue-in; red = red-in };
    blue_limit = omega (arith, limit-of b ts fs Blue, (w.limits blue).most);
    red_limit = omega (arith, limit-of b ts fs Red, (w.limits red).most);
    on_blue = blue-time;
    on_red = red-time;
    work = work_in;
    maker = λ k h. omega (arith, w.ordered k (file-in h), w.exists k (file-in h), maker-at b ts fs k, reader_at b ts fs k, task-count b ts fs);
    reader = λ k h. omega (arith, w.exists k (file-in h), reader_at b ts fs k, task-count b ts fs);
    size = λ k h. omega (arith, (w.sizes k (file-in h)).most, ap (λ f. f.size) (file-at b ts fs k));
    move_time = λ k h. record {
      least = omega (arith, (w.move_times k (file-in h)).least, ap (λ f. f.move_time) (file-at b ts fs k));
      most = omega (arith, (w.move_times k (file-in h)).most, ap (λ f. f.move_time) (file-at b ts fs k));
    };
  }

-- ---- a schedule whose tasks are all placed, whatever its numbers
pub placed-complete : (b : Board) (ts : List StoredTask) (fs : List StoredFile) (m : ℕ) (L : Entries) → Placed (length ts) L
    → Complete (instance_of b ts fs) (schedule_from (length ts) m L)
placed-complete b ts fs m L placed i h =
    let l : i < length ts = omega (arith, task-count b ts fs) in
    lt-ltb 0 (run_at (schedule_from (length ts) m L) i).processor (omega (arith, placed i l, processor-at (length ts) m L i l))
