-- The simulator on the course example of document 01, with and without one line changed, on relays and on working memory: one table, and one fact about its rows.
use Rattle.std.specs.Prelude.{ℕ, Bool, true, false, ◌&&◌, List, [], ◌∷◌, ◌++◌, length, T, eqb}
use Prim.Native.String.{String}
use Rattle.rules.specs.Count.{sum_below, max_below, any_below, first_below, list_below, list_where}
use Rattle.rules.specs.Limits.{all_processors, max_files}
use Rattle.rules.specs.Residency.{hold_by, work_by, files_held, work_held, held, files_horizon, work_horizon, horizon}
use Rattle.rules.specs.Text.{ascii, lines_of, digits_of, decimal_by, decimal, scan_by, fill}
use Rattle.rules.specs.InstanceText.{instance_line_by, read_rest_by, read_lines_by, read_instance_by}
use Rattle.rules.specs.ScheduleText.{schedule_line_by, read_end_by, read_claim_by, read_moves_by, read_runs_by, read_schedule_by}
use Rattle.rules.specs.Validity.{overlap, over, makespan}
use Rattle.rules.specs.Simulation.{Progress, refused_by, steps_left, stopped, ended, number_of, place_of, left_of, span_of, running_on, held_in, state_at, is_turn, shares_at, early_at, fault_at, closing, first_faulty, step_ticks, step_count, progress_of, watch, simulate_by, simulate}
use Rattle.rules.specs.Examples.{sheet, sheet_a, text_a}

-- a call with its texts, the steps made and those to make; how it ends, the steps made in all, the time, what the first processors run and
-- where the first files are held. All behind them is 0.
pub record Row : Type 0 where
  pub sheet : List ℕ
  pub timetable : List ℕ
  pub made : ℕ
  pub steps : ℕ
  pub progress : Progress
  pub done : ℕ
  pub time : ℕ
  pub running : List ℕ
  pub contents : List ℕ

-- the first list is the second, with zeros behind it
is_filled : List ℕ → List ℕ → Bool
is_filled [] [] = true
is_filled [] (y ∷ ys) = false
is_filled (x ∷ xs) [] = eqb x 0 && is_filled xs []
is_filled (x ∷ xs) (y ∷ ys) = eqb x y && is_filled xs ys

same_progress : Progress → Progress → Bool
same_progress a b = eqb (number_of a) (number_of b) && eqb (place_of a) (place_of b) && eqb (left_of a) (left_of b) && eqb (span_of a) (span_of b)

pub holds : Row → Bool
unfolding is_filled same_progress
    sum_below max_below any_below first_below list_below list_where
    hold_by work_by files_held work_held held files_horizon work_horizon horizon overlap over makespan
    lines_of digits_of decimal_by decimal scan_by fill
    instance_line_by read_rest_by read_lines_by read_instance_by
    schedule_line_by read_end_by read_claim_by read_moves_by read_runs_by read_schedule_by
    running_on held_in state_at is_turn shares_at early_at fault_at closing first_faulty step_ticks step_count progress_of watch simulate_by
holds r =
    let a = simulate r.sheet r.timetable r.made r.steps in
    let s = a.state in
    same_progress a.progress r.progress && eqb a.made r.done && eqb s.time r.time
    && is_filled s.running r.running && eqb (length s.running) all_processors
    && is_filled s.contents r.contents && eqb (length s.contents) max_files

pub all_hold : List Row → Bool
unfolding holds
all_hold [] = true
all_hold (r ∷ rs) = holds r && all_hold rs

-- the course example with blue limit 4, and its timetable with other lines in the places of example h to k
sheet_f : List ℕ
unfolding sheet
sheet_f = sheet "(board (blue 1 4) (red 1 6))\n"

paper : String → String → String → String → List ℕ
paper third first second claim =
    ascii "(run 1 2 0)\n(run 2 1 3)\n" ++ ascii third ++ ascii first ++ ascii second ++ ascii claim

row : List ℕ → List ℕ → ℕ → ℕ → Progress → ℕ → ℕ → List ℕ → List ℕ → Row
row s p made steps progress done time running contents = record {
  sheet = s;
  timetable = p;
  made = made;
  steps = steps;
  progress = progress;
  done = done;
  time = time;
  running = running;
  contents = contents;
}

-- a relay behind its maker; it reads a file of 3 blocks
relays : List ℕ
relays = ascii "(board (blue 1 9) (red 1 9))\n(task 1 2 2)\n(task 2 0 0)\n(file 1 2 3 1)\n"

relayed : List ℕ
relayed = ascii "(run 1 1 0)\n(run 2 1 2)\n(claim 2 3 0)\n"

pub table : List Row
unfolding sheet sheet_a sheet_f text_a paper row relays relayed
table =
    -- a, step by step: ticks 0, 2, 3, 4, 6, 8. Before the first
    row sheet_a text_a 0 0 steps_left 0 0 [] []
    -- task 1 runs on the red processor, and both its files are in red
    ∷ row sheet_a text_a 0 1 steps_left 1 0 (0 ∷ 1 ∷ []) (2 ∷ 2 ∷ [])
    -- it is finished; the first file moves, and is in both
    ∷ row sheet_a text_a 0 2 steps_left 2 2 [] (3 ∷ 2 ∷ [])
    ∷ row sheet_a text_a 0 3 steps_left 3 3 (2 ∷ []) (1 ∷ 2 ∷ [])
    ∷ row sheet_a text_a 0 4 steps_left 4 4 (2 ∷ []) (1 ∷ 3 ∷ [])
    ∷ row sheet_a text_a 0 5 steps_left 5 6 (3 ∷ []) (0 ∷ 1 ∷ [])
    -- the sixth step is the last; more give the same
    ∷ row sheet_a text_a 0 6 (ended 8) 6 8 [] []
    ∷ row sheet_a text_a 0 7 (ended 8) 6 8 [] []
    -- going on from three steps made; from there past the end
    ∷ row sheet_a text_a 3 1 steps_left 4 4 (2 ∷ []) (1 ∷ 3 ∷ [])
    ∷ row sheet_a text_a 3 2000 (ended 8) 6 8 [] []
    -- f, blue limit 4: the fourth step would be over it, and leaves the state of the third
    ∷ row sheet_f text_a 0 3 steps_left 3 3 (2 ∷ []) (1 ∷ 2 ∷ [])
    ∷ row sheet_f text_a 0 4 (stopped 17 4) 3 3 (2 ∷ []) (1 ∷ 2 ∷ [])
    ∷ row sheet_f text_a 3 9 (stopped 17 4) 3 3 (2 ∷ []) (1 ∷ 2 ∷ [])
    -- h: the move at 1, of a file that is made at 2
    ∷ row sheet_a (paper "(run 3 1 6)\n" "(move 1 2 1)\n" "(move 1 3 4)\n" "(claim 8 5 5)\n") 0 1024 (stopped 16 1) 1 0 (0 ∷ 1 ∷ []) (2 ∷ 2 ∷ [])
    -- i: at 5 task 3 starts on a processor in use, and before its file has arrived: 15
    ∷ row sheet_a (paper "(run 3 1 5)\n" "(move 1 2 2)\n" "(move 1 3 4)\n" "(claim 8 5 5)\n") 0 1024 (stopped 15 5) 4 4 (2 ∷ []) (1 ∷ 3 ∷ [])
    -- j: an untrue claim is no fault here
    ∷ row sheet_a (paper "(run 3 1 6)\n" "(move 1 2 2)\n" "(move 1 3 4)\n" "(claim 9 5 5)\n") 0 6 (ended 8) 6 8 [] []
    -- k, m: text refusals, whatever steps are named
    ∷ row sheet_a (paper "(run 3 1 6)\n" "" "(move 1 3 4)\n" "(claim 8 5 5)\n") 0 6 (refused_by 14 4) 0 0 [] []
    ∷ row (ascii "(board (blue 1 6) (red 1 6))\n") text_a 2 0 (refused_by 2 2) 0 0 [] []
    -- a relay is never seen running; its file is held for one tick more, after the span
    ∷ row relays relayed 0 2 steps_left 2 2 [] (1 ∷ [])
    ∷ row relays relayed 0 3 (ended 2) 3 3 [] []
    -- a relay inside another run on its processor: 15 at the later start
    ∷ row (ascii "(board (blue 1 9) (red 1 9))\n(task 1 2 2)\n(task 2 0 0)\n")
    (ascii "(run 1 1 0)\n(run 2 1 1)\n(claim 2 0 0)\n") 0 9 (stopped 15 1) 1 0 (1 ∷ []) []
    -- the first faulty tick decides: over a limit at 0, though two runs share an instant at 3, for which the marker refuses
    ∷ row (ascii "(board (blue 1 1) (red 1 9))\n(task 1 2 2)\n(task 2 4 2)\n(task 3 2 2)\n(file 1 2 2 1)\n")
    (ascii "(run 1 1 0)\n(run 2 1 2)\n(run 3 1 3)\n(claim 6 2 0)\n") 0 9 (stopped 17 0) 0 0 [] []
    -- working memory is not shown; that of a relay is held until the tick after its start, which is a step; over a limit it stops
    ∷ row (ascii "(board (blue 1 9) (red 1 9))\n(task 1 0 0 3)\n") (ascii "(run 1 1 4)\n(claim 4 3 0)\n") 0 1 steps_left 1 4 [] []
    ∷ row (ascii "(board (blue 1 9) (red 1 9))\n(task 1 0 0 3)\n") (ascii "(run 1 1 4)\n(claim 4 3 0)\n") 0 2 (ended 4) 2 5 [] []
    ∷ row (ascii "(board (blue 1 2) (red 1 9))\n(task 1 0 0 3)\n") (ascii "(run 1 1 4)\n(claim 4 3 0)\n") 0 1 (stopped 17 4) 0 0 [] []
    ∷ []

pub examples : T (all_hold table)
unfolding all_hold table
examples = tt
