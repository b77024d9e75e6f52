-- Order 5, finer ticks: the number that digits are read as; the answers that stayed as they were by the widths before it, and those that changed; and
-- that the numbers of a planner's timetable are in their ranges.
use Rattle.std.specs.Prelude.{ℕ, suc, ◌+◌, ◌*◌, ◌≤◌, ◌<◌, true, ◌≡◌, ◌↔◌, ◌⊎◌, List, [], ◌∷◌, length, get_or}
use Rattle.std.proofs.Math.Option.{some}
use Rattle.rules.specs.Limits.{max_digits, run_times, move_times, ticks, former}
use Rattle.rules.specs.Model.{Colour, Task, time_on, Instance, task_count, file_count, Schedule}
use Rattle.rules.specs.Validity.{Claim, Verdict, accepted_with, refused_by, makespan, true_claim}
use Rattle.rules.specs.Scheduling.{Planner, complete, outcome}
use Rattle.rules.specs.Text.{Line, ended, unended, lines_of, digits_of, numeral, value_from, decimal, scan, right}
use Rattle.rules.specs.InstanceText.{board_form, task_form, work_form, file_form, task_line, file_line, instance_line}
use Rattle.rules.specs.ScheduleText.{run_form, move_form, claim_form}
use Rattle.rules.specs.Calls.{mark_by, mark, Answer, plan_text, plan_by, plan}
use Rattle.rules.specs.Simulation.{Simulation, simulate_by, simulate}
use Rattle.rules.specs.Promises.{WellFormed, Spellable}

-- ---- the number reader

-- the digits at the front of a text are read as n exactly if they are n's decimal digits and n is at most 999999999999.
-- Not: a tenth digit refused, or a thirteenth taken; a value that wraps; a leading zero read
abbrev pub NumberLaw : Type 0
NumberLaw = (l : List ℕ) (n : ℕ) → ((numeral (digits_of l) ≡ true) × (value_from 0 (digits_of l) ≡ n)) ↔ ((digits_of l ≡ decimal n) × (n ≤ ticks.most))

-- ---- old papers keep their marks

-- the line of a text that has n lines before it; none is as one without its LF
abbrev pub line_behind : List ℕ → ℕ → Line
line_behind text n = get_or (lines_of text) n (unended [])

-- the forms of a board sheet's lines, and of a timetable's
abbrev pub sheet_forms : List (List ℕ)
sheet_forms = board_form ∷ task_form ∷ work_form ∷ file_form ∷ []

abbrev pub timetable_forms : List (List ℕ)
timetable_forms = run_form ∷ move_form ∷ claim_form ∷ []

-- a form is one of these
abbrev pub OneOf : List (List ℕ) → List ℕ → Type 0
OneOf [] form = ⊥
OneOf (f ∷ fs) form = (form ≡ f) ⊎ OneOf fs form

-- a line has its LF and a form, with a number that is too long by the former widths
pub record LongNumber (form : List ℕ) (l : Line) : Type 0 where
  pub bytes : List ℕ
  pub is_ended : l ≡ ended bytes
  pub numbers : List ℕ
  pub has_form : scan form bytes ≡ some numbers
  pub which : ℕ
  pub long : former.digits < length (decimal (get_or numbers which 0))

-- a mark by the former widths that refuses a line for a number too long (2 and 12: the line has its form, by the widths now) or too large
-- (3: the line is readable now). 13 is not among them: no start, move or claim of nine digits was too large
pub data RefusedForWidth (sheet timetable : List ℕ) : Verdict → Type 0 where
  long_in_sheet : (n : ℕ) (form : List ℕ) → OneOf sheet_forms form → LongNumber form (line_behind sheet n)
      → RefusedForWidth sheet timetable (refused_by 2 (suc n))
  large_run_time : (n i : ℕ) (a : Task) (c : Colour) → instance_line (line_behind sheet n) ≡ right (task_line i a) → former.run_times.most < time_on c a
      → RefusedForWidth sheet timetable (refused_by 3 (suc n))
  large_move_time : (n i j f c : ℕ) → instance_line (line_behind sheet n) ≡ right (file_line i j f c) → former.move_times.most < c
      → RefusedForWidth sheet timetable (refused_by 3 (suc n))
  long_in_timetable : (n : ℕ) (form : List ℕ) → OneOf timetable_forms form → LongNumber form (line_behind timetable n)
      → RefusedForWidth sheet timetable (refused_by 12 (suc n))

-- the mark v of a sheet and a timetable is the one that the former widths give, or that one refuses a line for a number too long or too large
abbrev pub KeptMark : List ℕ → List ℕ → Verdict → Type 0
KeptMark sheet timetable v = (v ≡ mark_by former sheet timetable) ⊎ RefusedForWidth sheet timetable (mark_by former sheet timetable)

-- old papers keep their marks except those refused for a number too long or too large.
-- Not: a paper accepted then and refused now; another place for an old fault. Alone it is met by the former marker; ChangedMarks rules that out
abbrev pub KeptMarks : Type 0
KeptMarks = (sheet timetable : List ℕ) → KeptMark sheet timetable (mark sheet timetable)

-- and each of those has another mark now.
-- Not: ten digits refused as they were; C's range left as it was. Alone it is met by a marker that changes every mark; KeptMarks rules that out
abbrev pub ChangedMarks : Type 0
ChangedMarks =
    (sheet timetable : List ℕ) → RefusedForWidth sheet timetable (mark_by former sheet timetable) → mark sheet timetable ≡ mark_by former sheet timetable → ⊥

-- a paper accepted then is accepted now, with the span and peaks it had. Not: an acceptance lost
abbrev pub KeptAccepted : Type 0
KeptAccepted = (sheet timetable : List ℕ) (claim : Claim) → mark_by former sheet timetable ≡ accepted_with claim → mark sheet timetable ≡ accepted_with claim

-- the same of a planner's answer a: it is the one that the former widths give, or that one refuses the sheet for a number too long or too large
abbrev pub KeptPlan : Planner → List ℕ → List ℕ → Answer → Type 0
KeptPlan R sheet buffer a =
    let b = plan_by former R sheet buffer in
    (a ≡ b) ⊎ RefusedForWidth sheet [] (refused_by b.number b.place)

-- Not: a time read as another number; another plan for an old sheet. Alone it is met by the former planner; PlannerExact rules that out
abbrev pub KeptPlans : Type 0
KeptPlans = (R : Planner) (sheet buffer : List ℕ) → KeptPlan R sheet buffer (plan R sheet buffer)

-- and of the simulator's: it is the one that the former widths give, or the marker by them refuses a line for a number too long or too large
abbrev pub KeptSimulation : List ℕ → List ℕ → ℕ → ℕ → Simulation → Type 0
KeptSimulation sheet timetable made steps a =
    (a ≡ simulate_by former sheet timetable made steps) ⊎ RefusedForWidth sheet timetable (mark_by former sheet timetable)

-- Not: a start read as another number; another state for an old timetable. Alone it is met by the former simulator; SimulatorLaw rules that out
abbrev pub KeptSimulations : Type 0
KeptSimulations =
    (sheet timetable : List ℕ) (made steps : ℕ) → KeptSimulation sheet timetable made steps (simulate sheet timetable made steps)

-- ---- a planner's numbers

-- the bytes that a line of a timetable has at most with its LF, two digits for a task or a processor: 25, 26 and 47
abbrev pub run_bytes : ℕ
run_bytes = 13 + max_digits

abbrev pub move_bytes : ℕ
move_bytes = 14 + max_digits

abbrev pub claim_bytes : ℕ
claim_bytes = 11 + 3 * max_digits

-- every number of a complete timetable and its true claim is in its range; the span is at most a move, a run and one tick more for each task, which is
-- 64 × 2000000001 = 128000000064 ticks at most; the text has a line for each task, one for each file and the claim, 64 × 25 + 256 × 26 + 47 = 8303 bytes
-- at most
pub record InRange (I : Instance) (P : Schedule) : Type 0 where
  pub spellable : Spellable I P (true_claim I P)
  pub span_bound : makespan I P ≤ task_count I * (move_times.most + run_times.most + 1)
  pub text_bound : length (plan_text I P) ≤ task_count I * run_bytes + file_count I * move_bytes + claim_bytes

-- of any planner, the plain ones too, whether or not the buffer is long enough.
-- Not: a start over 999999999999; a span that no claim can tell. Alone it is met by a rule that is always stuck; AmpleMemory rules that out
abbrev pub PlansInRange : Type 0
PlansInRange = (R : Planner) (I : Instance) → WellFormed I → (P : Schedule) (trials : ℕ) → outcome R I ≡ complete P trials → InRange I P
