-- Order 7 on the course example with W: one table, and one fact about its rows.
use Rattle.std.specs.Prelude.{ℕ, Bool, true, ◌&&◌, List, [], ◌∷◌, ◌++◌, replicate, T, eqb}
use Prim.Native.String.{String}
use Rattle.rules.specs.Count.{sum_below, max_below, any_below, first_below, list_below, list_where}
use Rattle.rules.specs.Residency.{hold_by, work_by, files_held, work_held, held, files_horizon, work_horizon, horizon}
use Rattle.rules.specs.Validity.{judge, overlap, overlaps, early, reads_early, makespan, peak, true_claim, over, judged_timing, judged_memory, judged_claim}
use Rattle.rules.specs.Text.{ascii, lines_of, digits_of, decimal_by, decimal, scan_by, fill}
use Rattle.rules.specs.InstanceText.{instance_line_by, read_rest_by, read_lines_by, read_instance_by, task_lines, file_lines, instance_text}
use Rattle.rules.specs.ScheduleText.{schedule_line_by, read_end_by, read_claim_by, read_moves_by, read_runs_by, read_schedule_by, run_lines, move_lines, schedule_text}
use Rattle.rules.specs.Calls.{overwritten}
use Rattle.rules.specs.Conversion.{Output, converted, stripped, convert}
use Rattle.rules.specs.Stripping.{strip}
use Rattle.rules.specs.Examples.{same, sheet, sheet_a}

-- the converter on a sheet, or the stripper on a sheet and a timetable of the converted one, with a lent buffer of so many bytes: number, place and text
pub data Row : Type 0 where
  converts : List ℕ → ℕ → ℕ → ℕ → List ℕ → Row
  strips : List ℕ → List ℕ → ℕ → ℕ → ℕ → List ℕ → Row

pub answers : List ℕ → Output → ℕ → ℕ → List ℕ → Bool
unfolding same
answers lent a number place text = eqb a.number number && eqb a.place place && same a.buffer (overwritten text lent)

pub holds : Row → Bool
unfolding answers sum_below max_below any_below first_below list_below list_where
    hold_by work_by files_held work_held held files_horizon work_horizon horizon
    judge overlaps overlap reads_early early over true_claim makespan peak
    judged_timing judged_memory judged_claim
    lines_of digits_of decimal_by decimal scan_by fill
    instance_line_by read_rest_by read_lines_by read_instance_by task_lines file_lines instance_text
    schedule_line_by read_end_by read_claim_by read_moves_by read_runs_by read_schedule_by run_lines move_lines schedule_text
    converted stripped convert strip
holds (converts sheet room number place text) = let lent = replicate {A = ℕ} room 7 in answers lent (convert sheet lent) number place text
holds (strips sheet timetable room number place text) = let lent = replicate {A = ℕ} room 7 in answers lent (strip sheet timetable lent) number place text

pub all_hold : List Row → Bool
unfolding holds
all_hold [] = true
all_hold (r ∷ rs) = holds r && all_hold rs

-- the course example with W for its first and its last task, and the sheet that it becomes
sheet_w : List ℕ
sheet_w = ascii "(board (blue 1 6) (red 1 6))\n(task 1 4 2 1)\n(task 2 3 5)\n(task 3 2 6 1)\n(file 1 2 2 1)\n(file 1 3 3 2)\n"

text_w : List ℕ
text_w =
    ascii "(board (blue 1 6) (red 1 6))\n(task 1 0 0)\n(task 2 0 0)\n(task 3 4 2)\n(task 4 3 5)\n(task 5 2 6)\n"
    ++ ascii "(file 1 3 1 1)\n(file 2 5 1 1)\n(file 3 4 2 1)\n(file 3 5 3 2)\n"

-- a timetable of that sheet, by the start of the second added task and the claim. That task runs on red, so its file moves
paper_like : String → String → List ℕ
paper_like start claim =
    ascii "(run 1 2 0)\n(run 2 2 " ++ ascii start ++ ascii ")\n(run 3 2 0)\n(run 4 1 3)\n(run 5 1 6)\n(move 2 5 5)\n(move 3 4 2)\n(move 3 5 4)\n(claim "
    ++ ascii claim ++ ascii ")\n"

-- at 2 it is valid, and blue's peak is one more than without it
paper_w : List ℕ
unfolding paper_like
paper_w = paper_like "2" "8 6 6"

-- what is left of it
left_w : List ℕ
left_w = ascii "(run 1 2 0)\n(run 2 1 3)\n(run 3 1 6)\n(move 1 2 2)\n(move 1 3 4)\n(claim 8 5 6)\n"

pub table : List Row
unfolding sheet sheet_a sheet_w text_w paper_like paper_w left_w
table =
    -- two of three tasks have W; a buffer of just its length, and one byte too short
    converts sheet_w 200 0 154 text_w
    ∷ converts sheet_w 154 0 154 text_w
    ∷ converts sheet_w 153 31 154 []
    -- a sheet without W comes out as it was
    ∷ converts sheet_a 200 0 98 sheet_a
    -- a refused sheet
    ∷ converts (ascii "(board (blue 1 6) (red 1 6))\n(task 1 4 2 0)\n") 200 3 2 []
    -- the added runs and moves are gone, the others have their old numbers, the claim is worked out afresh; a buffer too short
    ∷ strips sheet_w paper_w 100 0 76 left_w
    ∷ strips sheet_w paper_w 75 31 76 []
    -- the second added task at 0: red then holds 7, over its limit
    ∷ strips sheet_w (paper_like "0" "8 6 7") 100 17 0 []
    -- an untrue claim; a timetable of the original
    ∷ strips sheet_w (paper_like "2" "8 5 6") 100 18 0 []
    ∷ strips sheet_w left_w 100 14 4 []
    ∷ []

pub examples : T (all_hold table)
unfolding all_hold table
examples = tt
