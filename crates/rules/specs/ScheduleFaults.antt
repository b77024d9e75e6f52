-- When a timetable is refused for its text, by which number and at which line: document 01's 11 to 14 in words.
use Rattle.std.specs.Prelude.{ℕ, suc, ◌≤◌, ◌<◌, true, ◌≡◌, ◌↔◌, List, [], ◌∷◌, ◌++◌, length}
use Rattle.rules.specs.Limits.{max_text}
use Rattle.rules.specs.Model.{Instance, task_count, file_count, file_at, Run, Schedule, moved}
use Rattle.rules.specs.Validity.{Claim}
use Rattle.rules.specs.Text.{Fault, too_long, malformed, undue, Line, lines_of, wrong, right}
use Rattle.rules.specs.ScheduleText.{ScheduleLine, run_line, move_line, claim_line, schedule_line, refused, read, read_schedule, schedule_text}
use Rattle.rules.specs.Promises.{WellFormed, Spellable, First}

-- the line due: the run of task i, the move of file k, both counted from 0; the claim; nothing
pub data DueLine : Type 0 where
  run : ℕ → DueLine
  move : ℕ → DueLine
  claim : DueLine
  end : DueLine

-- what was read so far. Before the claim: the runs of the first tasks; then, of the first files, the moves of those that move. Behind it: all
pub data SoFar : Type 0 where
  before : List Run → ℕ → SoFar
  behind : SoFar

-- file k is behind the first files, and moved by these runs
abbrev pub StillMoves : Instance → List Run → ℕ → ℕ → Type 0
StillMoves I runs files k = (files ≤ k) × (k < file_count I) × (moved I (record { runs = runs; moves = [] }) k ≡ true)

-- the next run; behind the last, the next move in the sheet's order; behind the last, the claim; then nothing
pub data Due (I : Instance) : SoFar → DueLine → Type 0 where
  next_run : {runs : List Run} {files : ℕ} → length runs < task_count I → Due I (before runs files) (run (length runs))
  next_move : {runs : List Run} {files k : ℕ} → task_count I ≤ length runs → First (StillMoves I runs files) k → Due I (before runs files) (move k)
  lastly : {runs : List Run} {files : ℕ} → task_count I ≤ length runs → ((k : ℕ) → StillMoves I runs files k → ⊥) → Due I (before runs files) claim
  nothing : Due I behind end

-- 14: a readable line that is not the one due
pub data NotDue (I : Instance) : DueLine → ScheduleLine → Type 0 where
  other_task : (i j : ℕ) (r : Run) → (j ≡ suc i → ⊥) → NotDue I (run i) (run_line j r)
  move_for_run : (i j l t : ℕ) → NotDue I (run i) (move_line j l t)
  claim_for_run : (i : ℕ) (c : Claim) → NotDue I (run i) (claim_line c)
  other_maker : (k i j t : ℕ) → (i ≡ suc (file_at I k).maker → ⊥) → NotDue I (move k) (move_line i j t)
  other_reader : (k i j t : ℕ) → (j ≡ suc (file_at I k).reader → ⊥) → NotDue I (move k) (move_line i j t)
  run_for_move : (k i : ℕ) (r : Run) → NotDue I (move k) (run_line i r)
  claim_for_move : (k : ℕ) (c : Claim) → NotDue I (move k) (claim_line c)
  run_for_claim : (i : ℕ) (r : Run) → NotDue I claim (run_line i r)
  move_for_claim : (i j t : ℕ) → NotDue I claim (move_line i j t)
  behind_claim : (x : ScheduleLine) → NotDue I end x

-- the line due, and what was read with it
pub data Taken (I : Instance) : SoFar → DueLine → ScheduleLine → SoFar → Type 0 where
  a_run : (runs : List Run) (files i : ℕ) (r : Run) → Taken I (before runs files) (run i) (run_line (suc i) r) (before (runs ++ (r ∷ [])) files)
  a_move : (runs : List Run) (files k t : ℕ)
      → Taken I (before runs files) (move k) (move_line (suc (file_at I k).maker) (suc (file_at I k).reader) t) (before runs (suc k))
  the_claim : (runs : List Run) (files : ℕ) (c : Claim) → Taken I (before runs files) claim (claim_line c) behind

-- the first line at fault has n lines before it, each the one due; a line is absent where the text ends before the claim
pub data FirstBad (I : Instance) : SoFar → List Line → ℕ → Fault → Type 0 where
  absent : {runs : List Run} {files : ℕ} → FirstBad I (before runs files) [] 0 malformed
  unread : {s : SoFar} {l : Line} {ls : List Line} {w : Fault} → schedule_line I l ≡ wrong w → FirstBad I s (l ∷ ls) 0 w
  another : {s : SoFar} {l : Line} {ls : List Line} (d : DueLine) (x : ScheduleLine) → Due I s d → schedule_line I l ≡ right x → NotDue I d x
      → FirstBad I s (l ∷ ls) 0 undue
  later : {s : SoFar} {l : Line} {ls : List Line} {w : Fault} {n : ℕ} (d : DueLine) (x : ScheduleLine) (next : SoFar)
      → Due I s d → schedule_line I l ≡ right x → Taken I s d x next → FirstBad I next ls n w → FirstBad I s (l ∷ ls) (suc n) w

pub data ScheduleFault (I : Instance) (timetable : List ℕ) : Fault → ℕ → Type 0 where
  long : max_text < length timetable → ScheduleFault I timetable too_long 0
  at_line : (n : ℕ) (w : Fault) → length timetable ≤ max_text → FirstBad I (before [] 0) (lines_of timetable) n w → ScheduleFault I timetable w (suc n)

-- Not: no timetable refused, or each; one number, or one line, for all refused ones; the last fault; 12 for 13; 14 for a line that is not readable. Alone
-- it is met by each other text read as one fixed timetable; TimetableExact rules that out
abbrev pub ScheduleFaults : Type 0
ScheduleFaults = (I : Instance) (timetable : List ℕ) (w : Fault) (k : ℕ) → (read_schedule I timetable ≡ refused w k) ↔ ScheduleFault I timetable w k

-- the timetables read are the due lines of those that these can spell, and no others.
-- Not: none read, or each; one fixed timetable read; a leading zero. Alone it is met by one number for all refusals; ScheduleFaults rules that out
abbrev pub TimetableExact : Type 0
TimetableExact =
    (I : Instance) → WellFormed I → (timetable : List ℕ) (P : Schedule) (c : Claim) →
    (read_schedule I timetable ≡ read P c) ↔ (Spellable I P c × (timetable ≡ schedule_text I P c))
