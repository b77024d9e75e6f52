-- Staircases, worked out by hand: one table, and one fact about its rows.
use Rattle.std.specs.Prelude.{ℕ, Bool, true, false, ◌&&◌, List, [], ◌∷◌, T, eqb}
use Rattle.rules.specs.Count.{sum_below, max_below, any_below, first_below, list_below}
use Rattle.rules.specs.Residency.{hold_by, work_by, files_held, work_held, held, files_horizon, work_horizon, horizon}
use Rattle.rules.specs.Model.{Colour, blue, red, Instance, limit_of}
use Rattle.rules.specs.Scheduling.{Partial, empty, crossing_size, output_size, chosen_processor, assign}
use Rattle.rules.specs.Text.{ascii, lines_of, digits_of, decimal_by, decimal, scan_by, fill}
use Rattle.rules.specs.InstanceText.{accepted, refused, instance_line_by, read_rest_by, read_lines_by, read_instance_by, read_instance}
use Rattle.rules.specs.Staircase.{Step, free_at, steps_up_to, stairs, steps_shifted, steps_behind, steps_after, steps_after_all, input_size, moves_in, own_changes, other_changes, grouped_changes}
use Rattle.rules.specs.Examples.{sheet_a}

-- a task placed on a colour at a start; tasks counted from 0
pub record Placing : Type 0 where
  pub task : ℕ
  pub colour : Colour
  pub start : ℕ

-- tasks placed one after the other on a sheet, and the staircase of a memory behind the last
pub record Row : Type 0 where
  pub sheet : List ℕ
  pub placings : List Placing
  pub memory : Colour
  pub steps : List Step

same_steps : List Step → List Step → Bool
same_steps [] [] = true
same_steps [] (y ∷ ys) = false
same_steps (x ∷ xs) [] = false
same_steps (x ∷ xs) (y ∷ ys) = eqb x.tick y.tick && eqb x.free y.free && same_steps xs ys

-- what the hold rule gives behind the placings, and what their changes make of a staircase, are the steps of the row
follows : Instance → Partial → List Step → List Placing → Colour → List Step → Bool
unfolding same_steps sum_below max_below any_below first_below list_below hold_by work_by files_held work_held held files_horizon work_horizon horizon
    crossing_size output_size chosen_processor assign
    free_at steps_up_to stairs steps_shifted steps_behind steps_after steps_after_all input_size moves_in own_changes other_changes
follows I Q kept [] d steps = same_steps (stairs I Q.schedule d) steps && same_steps kept steps
follows I Q kept (p ∷ ps) d steps =
    follows I (assign I Q p.task p.colour p.start)
    (steps_after_all (grouped_changes I Q.schedule p.task p.colour p.start d) kept) ps d steps

pub holds : Row → Bool
unfolding follows sum_below max_below any_below first_below list_below empty
    lines_of digits_of decimal_by decimal scan_by fill
    instance_line_by read_rest_by read_lines_by read_instance_by
holds r = elim (read_instance r.sheet) [
  | accepted I ↦ follows I (empty I) (record { tick = 0; free = limit_of I r.memory } ∷ []) r.placings r.memory r.steps
  | refused w k ↦ false
]

pub all_hold : List Row → Bool
unfolding holds
all_hold [] = true
all_hold (r ∷ rs) = holds r && all_hold rs

at : ℕ → ℕ → Step
at tick free = record { tick = tick; free = free }

put : ℕ → Colour → ℕ → Placing
put task colour start = record { task = task; colour = colour; start = start }

row : List ℕ → List Placing → Colour → List Step → Row
row sheet placings memory steps = record { sheet = sheet; placings = placings; memory = memory; steps = steps }

-- two files of one size, one behind the other
sheet_e : List ℕ
sheet_e = ascii "(board (blue 1 3) (red 1 0))\n(task 1 1 1)\n(task 2 1 1)\n(task 3 1 1)\n(task 4 1 1)\n(file 1 2 3 1)\n(file 3 4 3 1)\n"

pub table : List Row
unfolding at put row sheet_a sheet_e
table =
    -- the course example with nothing placed
    row sheet_a [] blue (at 0 6 ∷ [])
    ∷ row sheet_a [] red (at 0 6 ∷ [])
    -- task 1 on red at 0: its two files are there until their readers are placed
    ∷ row sheet_a (put 0 red 0 ∷ []) blue (at 0 6 ∷ [])
    ∷ row sheet_a (put 0 red 0 ∷ []) red (at 0 1 ∷ [])
    -- task 2 on blue at 3: its file moves from 2 to 3, and goes at 6
    ∷ row sheet_a (put 0 red 0 ∷ put 1 blue 3 ∷ []) blue (at 0 6 ∷ at 2 4 ∷ at 6 6 ∷ [])
    ∷ row sheet_a (put 0 red 0 ∷ put 1 blue 3 ∷ []) red (at 0 1 ∷ at 3 3 ∷ [])
    -- task 3 on blue at 6: its file moves from 4 to 6, and goes at 8
    ∷ row sheet_a (put 0 red 0 ∷ put 1 blue 3 ∷ put 2 blue 6 ∷ []) blue (at 0 6 ∷ at 2 4 ∷ at 4 1 ∷ at 6 3 ∷ at 8 6 ∷ [])
    ∷ row sheet_a (put 0 red 0 ∷ put 1 blue 3 ∷ put 2 blue 6 ∷ []) red (at 0 1 ∷ at 3 3 ∷ at 6 6 ∷ [])
    -- the first file goes at 2, the second comes at 2: a pair at 2 before, none after
    ∷ row sheet_e (put 0 blue 0 ∷ put 1 blue 1 ∷ []) blue (at 0 0 ∷ at 2 3 ∷ [])
    ∷ row sheet_e (put 0 blue 0 ∷ put 1 blue 1 ∷ put 2 blue 2 ∷ []) blue (at 0 0 ∷ [])
    ∷ row sheet_e (put 0 blue 0 ∷ put 1 blue 1 ∷ put 2 blue 2 ∷ put 3 blue 3 ∷ []) blue (at 0 0 ∷ at 4 3 ∷ [])
    ∷ []

pub examples : T (all_hold table)
unfolding all_hold table
examples = tt
