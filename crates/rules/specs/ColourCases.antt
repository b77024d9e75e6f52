-- Order 2 in words: what a file costs by the four cases of its maker and its reader, blue-blue, red-red, blue-red and red-blue.
-- Each rule is stated case by case. For all cases at once, by `move_time_between` and `newly_held`, are stated: the totals of a trial, that held already and
-- newly held make up the file, that moves take time, and document 001's constraints.
use Rattle.std.specs.Prelude.{ℕ, ◌+◌, ◌-◌, ◌≤◌, ◌<◌, max, Bool, true, false, not, cond, ◌&&◌, ◌≡◌, ◌↔◌, eqb}
use Rattle.rules.specs.Count.{sum_where, max_where}
use Rattle.rules.specs.Model.{Colour, blue, red, move_time_between, newly_held, Instance, file_count, file_at, size_at, move_time_at, is_placed}
use Rattle.rules.specs.Model.{Schedule, start_at, move_at, release_at, maker_run, reader_run, maker_colour, reader_colour, moved, actual_move_time, made_at, move_end}
use Rattle.rules.specs.Residency.{Hold, never, during, since, hold_of, is_held}
use Rattle.rules.specs.Validity.{OnTime}
use Rattle.rules.specs.Scheduling.{reads, crossing, crossing_size, crossing_time, arrival, input_start, move_with}
use Rattle.rules.specs.Promises.{WellFormed}

-- ---- a trial of a task

-- file j is another than file k
abbrev pub other : ℕ → ℕ → Bool
other k j = not (eqb j k)

-- what file k, which task i reads, adds to a trial on colour c: `time` from its making to its arrival (start 2) and among the move times (start 4), `size`
-- among the sizes of the crossing files (starts 3 and 4). Each is that of the other files, with file k's own
pub record Adds (I : Instance) (P : Schedule) (i k : ℕ) (c : Colour) (time size : ℕ) : Type 0 where
  pub arrives : input_start I P i c ≡ max (max_where (file_count I) (λ j. reads I i j && other k j) (arrival I P i c)) (made_at I P k + time)
  pub waits : crossing_time I P i c ≡ max (max_where (file_count I) (λ j. crossing I P i c j && other k j) (move_time_at I)) time
  pub enters : crossing_size I P i c ≡ sum_where (file_count I) (λ j. crossing I P i c j && other k j) (size_at I) + size

-- the colours are those of the file's maker and of the trial. Not: document 001's reversed δ; C within a colour; C where F is due; a file left out
pub record TrialCases (I : Instance) (P : Schedule) (i k : ℕ) : Type 0 where
  pub blue_blue : maker_colour I P k ≡ blue → Adds I P i k blue 0 0
  pub red_red : maker_colour I P k ≡ red → Adds I P i k red 0 0
  pub blue_red : maker_colour I P k ≡ blue → Adds I P i k red (move_time_at I k) (size_at I k)
  pub red_blue : maker_colour I P k ≡ red → Adds I P i k blue (move_time_at I k) (size_at I k)

abbrev pub TrialByCases : Type 0
TrialByCases = (I : Instance) (P : Schedule) (i k : ℕ) → k < file_count I → reads I i k ≡ true → TrialCases I P i k

-- the whole trial: start 2, the greatest move time and the sizes of the crossing files are those of all files that the task reads, each by its case.
-- Not: a file left out; the greatest C for each file; C where F is due
pub record TrialTotals (I : Instance) (P : Schedule) (i : ℕ) (c : Colour) : Type 0 where
  pub arrives : input_start I P i c
      ≡ max_where (file_count I) (reads I i) (λ k. made_at I P k + move_time_between (maker_colour I P k) c (move_time_at I k))
  pub waits : crossing_time I P i c ≡ max_where (file_count I) (reads I i) (λ k. move_time_between (maker_colour I P k) c (move_time_at I k))
  pub enters : crossing_size I P i c ≡ sum_where (file_count I) (reads I i) (λ k. newly_held (maker_colour I P k) c (size_at I k))

abbrev pub TotalsByCases : Type 0
TotalsByCases = (I : Instance) (P : Schedule) (i : ℕ) (c : Colour) → TrialTotals I P i c

-- `move_with`, by which `assign` sets the moves: where the move of file k stands with its reader i placed at `start`, as before within a colour, else at the
-- start less its own move time (0 if that is longer). Not: the greatest move time for all; a move set for a file that stays
pub record MoveCases (I : Instance) (P : Schedule) (i k start : ℕ) : Type 0 where
  pub blue_blue : maker_colour I P k ≡ blue → move_with I P i blue start k ≡ move_at P k
  pub red_red : maker_colour I P k ≡ red → move_with I P i red start k ≡ move_at P k
  pub blue_red : maker_colour I P k ≡ blue → move_with I P i red start k ≡ start - move_time_at I k
  pub red_blue : maker_colour I P k ≡ red → move_with I P i blue start k ≡ start - move_time_at I k

abbrev pub PlacingByCases : Type 0
PlacingByCases = (I : Instance) (P : Schedule) (i k start : ℕ) → reads I i k ≡ true → MoveCases I P i k start

-- ---- what a memory holds

-- when the blue memory holds file k, and when the red one does
abbrev pub HeldAs : Instance → Schedule → ℕ → Hold → Hold → Type 0
HeldAs I P k in_blue in_red = (hold_of I P blue k ≡ in_blue) × (hold_of I P red k ≡ in_red)

-- a file with both its tasks placed: within a colour that memory alone has it, from its maker's start until its reader's release; across, its maker's
-- until the move's end, and its reader's from the move's start. Not: the maker's memory freed at the move's start; both memories within a colour
pub record HeldCases (I : Instance) (P : Schedule) (k begun released : ℕ) : Type 0 where
  pub blue_blue : maker_colour I P k ≡ blue → reader_colour I P k ≡ blue → HeldAs I P k (during begun released) never
  pub red_red : maker_colour I P k ≡ red → reader_colour I P k ≡ red → HeldAs I P k never (during begun released)
  pub blue_red : maker_colour I P k ≡ blue → reader_colour I P k ≡ red → HeldAs I P k (during begun (move_end I P k)) (during (move_at P k) released)
  pub red_blue : maker_colour I P k ≡ red → reader_colour I P k ≡ blue → HeldAs I P k (during (move_at P k) released) (during begun (move_end I P k))

abbrev pub HoldByCases : Type 0
HoldByCases =
    (I : Instance) (P : Schedule) (k : ℕ) → is_placed (maker_run I P k) ≡ true → is_placed (reader_run I P k) ≡ true →
    HeldCases I P k (maker_run I P k).start (release_at I P (file_at I k).reader)

-- a file whose maker is placed and whose reader is not: what memory c holds of it already, from its maker's start on, and what c must newly hold of it
-- together make up its size.
-- Not: a file of c's own counted again; one of the other colour not counted
pub record WholeCases (I : Instance) (P : Schedule) (k : ℕ) : Type 0 where
  pub from_blue : maker_colour I P k ≡ blue → HeldAs I P k (since (maker_run I P k).start) never
  pub from_red : maker_colour I P k ≡ red → HeldAs I P k never (since (maker_run I P k).start)
  pub whole : (c : Colour) (t : ℕ) → (maker_run I P k).start ≤ t →
      cond (is_held I P c t k) (size_at I k) 0 + newly_held (maker_colour I P k) c (size_at I k) ≡ size_at I k

abbrev pub WholeFile : Type 0
WholeFile = (I : Instance) (P : Schedule) (k : ℕ) → is_placed (maker_run I P k) ≡ true → is_placed (reader_run I P k) ≡ false → WholeCases I P k

-- ---- what the marker asks

-- no move is due for file k, and it is on time exactly if it is made by its reader's start
pub record Stays (I : Instance) (P : Schedule) (k : ℕ) : Type 0 where
  pub due : moved I P k ≡ false
  pub on_time : OnTime I P k ↔ (made_at I P k ≤ start_at P (file_at I k).reader)

-- a move is due, and the file is on time exactly if it is made by the move's start and the move ends by its reader's start
pub record Moves (I : Instance) (P : Schedule) (k : ℕ) : Type 0 where
  pub due : moved I P k ≡ true
  pub on_time : OnTime I P k ↔ ((made_at I P k ≤ move_at P k) × (move_end I P k ≤ start_at P (file_at I k).reader))

-- Not: a move due within a colour; a file read while it moves
pub record FileCases (I : Instance) (P : Schedule) (k : ℕ) : Type 0 where
  pub blue_blue : maker_colour I P k ≡ blue → reader_colour I P k ≡ blue → Stays I P k
  pub red_red : maker_colour I P k ≡ red → reader_colour I P k ≡ red → Stays I P k
  pub blue_red : maker_colour I P k ≡ blue → reader_colour I P k ≡ red → Moves I P k
  pub red_blue : maker_colour I P k ≡ red → reader_colour I P k ≡ blue → Moves I P k

abbrev pub FileByCases : Type 0
FileByCases = (I : Instance) (P : Schedule) (k : ℕ) → FileCases I P k

-- on an accepted board sheet a move is due exactly for the files whose actual move time is above 0: the code asks this. Not: a move that takes no time
abbrev pub MovesTakeTime : Type 0
MovesTakeTime = (I : Instance) → WellFormed I → (P : Schedule) (k : ℕ) → k < file_count I → (moved I P k ≡ true) ↔ (0 < actual_move_time I P k)

-- document 001's two constraints for a communication of file k at a tick: its maker has finished, and it is over by its reader's start. The tick is the
-- move's start if the file moves
pub record Communicates (I : Instance) (P : Schedule) (k tick : ℕ) : Type 0 where
  pub own : moved I P k ≡ true → tick ≡ move_at P k
  pub made : made_at I P k ≤ tick
  pub over : tick + actual_move_time I P k ≤ start_at P (file_at I k).reader

-- a file is on time exactly if these constraints can be met. Not: τ + C for each file; COMM reversed
abbrev pub PrintedRule : Type 0
PrintedRule = (I : Instance) (P : Schedule) (k : ℕ) → OnTime I P k ↔ ((tick : ℕ) × Communicates I P k tick)
