-- More of what the simulator promises: its ticks, its text refusals and its numbers in words; and that the contract's record leaves one answer.
use Rattle.std.specs.Prelude.{ℕ, suc, ◌<◌, min, Bool, true, false, ◌||◌, ◌≡◌, ◌↔◌, List, eqb}
use Rattle.rules.specs.Limits.{max_steps}
use Rattle.rules.specs.Model.{Colour, Instance, task_count, file_count, Schedule, start_at, finish_at, move_at, moved, move_end}
use Rattle.rules.specs.Residency.{is_held, is_work_held}
use Rattle.rules.specs.Validity.{refused_by as refusal}
use Rattle.rules.specs.Calls.{mark}
use Rattle.rules.specs.Simulation.{is_turn, refused_by, steps_left, stopped, ended, number_of, place_of, left_of, span_of, Simulation, refused_text, simulate}
use Rattle.rules.specs.SimulationPromises.{is_fault, is_of_text, Simulated}

-- something that is so at some ticks begins at tick t: it is so then, and not at the tick before
pub record Begins (f : ℕ → Bool) (t : ℕ) : Type 0 where
  pub now : f t ≡ true
  pub earlier : (u : ℕ) → suc u ≡ t → f u ≡ false

-- it ends at tick t: it was so at the tick before, and is no more
pub record Ceases (f : ℕ → Bool) (t : ℕ) : Type 0 where
  pub last : ℕ
  pub next : suc last ≡ t
  pub was : f last ≡ true
  pub gone : f t ≡ false

-- a run, a move or a hold starts or ends at tick t
pub data Turn (I : Instance) (P : Schedule) (t : ℕ) : Type 0 where
  run_starts : (i : ℕ) → i < task_count I → start_at P i ≡ t → Turn I P t
  run_ends : (i : ℕ) → i < task_count I → finish_at I P i ≡ t → Turn I P t
  move_starts : (k : ℕ) → k < file_count I → moved I P k ≡ true → move_at P k ≡ t → Turn I P t
  move_ends : (k : ℕ) → k < file_count I → moved I P k ≡ true → move_end I P k ≡ t → Turn I P t
  hold_starts : (c : Colour) (k : ℕ) → k < file_count I → Begins (λ u. is_held I P c u k) t → Turn I P t
  hold_ends : (c : Colour) (k : ℕ) → k < file_count I → Ceases (λ u. is_held I P c u k) t → Turn I P t
  -- Order 6
  work_starts : (c : Colour) (i : ℕ) → i < task_count I → Begins (λ u. is_work_held I P c u i) t → Turn I P t
  work_ends : (c : Colour) (i : ℕ) → i < task_count I → Ceases (λ u. is_work_held I P c u i) t → Turn I P t

-- the ticks of the steps are exactly these.
-- Not: every tick; the ends of holds left out; a tick for a hold that never was. It fixes the ticks
abbrev pub TurnLaw : Type 0
TurnLaw = (I : Instance) (P : Schedule) (t : ℕ) → (is_turn I P t ≡ true) ↔ Turn I P t

-- a text is refused exactly where the marker refuses it by 1 to 4 or 11 to 14, with its number and place.
-- Not: refused on each sheet. Alone it is met by any state beside a refusal; TextLaw rules that out
abbrev pub TextExact : Type 0
TextExact =
    (sheet timetable : List ℕ) (made steps number place : ℕ) →
    ((simulate sheet timetable made steps).progress ≡ refused_by number place) ↔ ((mark sheet timetable ≡ refusal number place) × (is_of_text number ≡ true))

-- over 1024 steps count as 1024.
-- Not: a call of more refused. Alone it is met by one fixed answer; SimulatorLaw rules that out
abbrev pub StepsCapped : Type 0
StepsCapped = (sheet timetable : List ℕ) (made steps : ℕ) → simulate sheet timetable made steps ≡ simulate sheet timetable made (min steps max_steps)

-- the numbers of an answer tell how it ends, and no other numbers come
pub record Told (a : Simulation) : Type 0 where
  pub listed : is_of_text (number_of a.progress) || is_fault (number_of a.progress) || eqb (number_of a.progress) 0 ≡ true
  -- 1 to 4, 11 to 14: a text is refused, and the state is that before the first
  pub refuses : is_of_text (number_of a.progress) ≡ true → a ≡ refused_text (number_of a.progress) (place_of a.progress)
  -- 15, 16, 17: stopped at a tick
  pub stops : is_fault (number_of a.progress) ≡ true → a.progress ≡ stopped (number_of a.progress) (place_of a.progress)
  -- 0: steps are left, or the end with the span
  pub goes_on : number_of a.progress ≡ 0 → left_of a.progress ≡ 1 → a.progress ≡ steps_left
  pub ends : number_of a.progress ≡ 0 → left_of a.progress ≡ 0 → a.progress ≡ ended (span_of a.progress)

-- demand 1. Not: a number of its own; steps made shown with a text refusal; 0 for a stop. Alone it is met where steps are always left;
-- SimulatorLaw rules that out
abbrev pub NumbersTell : Type 0
NumbersTell = (sheet timetable : List ℕ) (made steps : ℕ) → Told (simulate sheet timetable made steps)

-- `Simulated` leaves one answer.
-- Not: a `Simulated` that two answers meet. Alone it is met where no answer meets it; SimulatorLaw rules that out
abbrev pub SimulatedOnly : Type 0
SimulatedOnly =
    (sheet timetable : List ℕ) (made steps : ℕ) (a : Simulation) → Simulated sheet timetable made steps a → a ≡ simulate sheet timetable made steps
