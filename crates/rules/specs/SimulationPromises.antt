-- What the simulator promises, stated of the definitions. Each is a type, proved in proofs/ under its name in snake case.
-- "Not:" names a wrong rule that the promise rules out by itself; where alone it is met by a trivial program, the comment names the promise that
-- rules that out. TurnLaw, TextExact and SimulatedOnly are in SimulationExact.
use Rattle.std.specs.Prelude.{ℕ, suc, ◌+◌, ◌*◌, ◌≤◌, ◌<◌, max, min, Bool, true, false, ◌&&◌, ◌||◌, ◌≡◌, ◌↔◌, List, length, get_or, leb, eqb}
use Rattle.rules.specs.Count.{count_where}
use Rattle.rules.specs.Limits.{max_tasks, max_files, all_processors, max_steps}
use Rattle.rules.specs.Model.{Colour, blue, red, Instance, task_count, file_count, Schedule, run_at, start_at, move_at, moved, made_at}
use Rattle.rules.specs.Residency.{is_held, is_work_held}
use Rattle.rules.specs.Validity.{Claim, ShareInstant, Occupies, OverLimit, makespan, Verdict}
use Rattle.rules.specs.InstanceText.{accepted, read_instance}
use Rattle.rules.specs.ScheduleText.{read, read_schedule}
use Rattle.rules.specs.Calls.{mark}
use Rattle.rules.specs.Promises.{WellFormed, Spellable, First}
use Rattle.rules.specs.Simulation.{State, before, occupies, is_turn, arrives_at, read_at, closing, Progress, steps_left, stopped, ended, left_of, Simulation, watch, refused_text, simulate}

-- ---- the state of a step

-- what a number of `contents` says of a memory
abbrev pub is_in : Colour → ℕ → Bool
is_in blue n = eqb n 1 || eqb n 3
is_in red n = eqb n 2 || eqb n 3

-- the state of tick t: each processor runs exactly what occupies it, and each memory has exactly the files that the hold rule puts there;
-- where a file is held is told by one of four numbers
pub record Shows (I : Instance) (P : Schedule) (t : ℕ) (s : State) : Type 0 where
  pub time : s.time ≡ t
  pub processors : length s.running ≡ all_processors
  pub files : length s.contents ≡ max_files
  pub runs : (p i : ℕ) → p < all_processors
      → (get_or s.running p 0 ≡ suc i) ↔ ((i < task_count I) × ((run_at P i).processor ≡ suc p) × Occupies I P i t)
  pub holds : (c : Colour) (k : ℕ) → k < max_files → (is_in c (get_or s.contents k 0) ≡ true) ↔ ((k < file_count I) × (is_held I P c t k ≡ true))
  pub numbers : (k : ℕ) → k < max_files → get_or s.contents k 0 ≤ 3

-- t is the one of which A holds that has so many others below it
pub record Nth (A : ℕ → Bool) (n t : ℕ) : Type 0 where
  pub holds : A t ≡ true
  pub below : count_where t A ≡ n

-- the state after the steps made: before the first, or that of the tick of the last
pub record Stepped (I : Instance) (P : Schedule) (a : Simulation) : Type 0 where
  pub none : a.made ≡ 0 → a.state ≡ before
  pub some : (n : ℕ) → a.made ≡ suc n → (t : ℕ) × Nth (is_turn I P) n t × Shows I P t a.state

-- of a timetable that the due lines can spell.
-- Not: looking only when runs start; a step that jumps over a tick; a finished run still shown. Alone it is met by a simulator that never steps;
-- ProgressLaw rules that out
abbrev pub StepLaw : Type 0
StepLaw =
    (I : Instance) → WellFormed I → (P : Schedule) (claim : Claim) → Spellable I P claim → (wanted : ℕ) → Stepped I P (watch I P wanted)

-- at a tick at which nothing starts or ends all is as at the tick before, so the steps miss nothing.
-- Not: the end of a hold left out of the ticks. Alone it is met by steps to every tick; TurnLaw rules that out
abbrev pub StillLaw : Type 0
StillLaw =
    (I : Instance) (P : Schedule) (t : ℕ) → is_turn I P (suc t) ≡ false →
    ((p i : ℕ) → i < task_count I → occupies I P p (suc t) i ≡ occupies I P p t i)
    × ((c : Colour) (k : ℕ) → k < file_count I → is_held I P c (suc t) k ≡ is_held I P c t k)
    × ((c : Colour) (i : ℕ) → i < task_count I → is_work_held I P c (suc t) i ≡ is_work_held I P c t i)

-- ---- where it stops

-- two runs on one processor share an instant, and t is the later of their starts
pub record LaterStart (I : Instance) (P : Schedule) (t : ℕ) : Type 0 where
  pub one : ℕ
  pub other : ℕ
  pub one_exists : one < task_count I
  pub other_exists : other < task_count I
  pub differ : one ≡ other → ⊥
  pub processor : (run_at P one).processor ≡ (run_at P other).processor
  pub shares : ShareInstant I P one other
  pub later : max (start_at P one) (start_at P other) ≡ t

-- t is the start of a move of a file that is not made by then, or of a reader whose file has not arrived by then
pub data EarlyTick (I : Instance) (P : Schedule) (t : ℕ) : Type 0 where
  early_move : (k : ℕ) → k < file_count I → moved I P k ≡ true → move_at P k < made_at I P k → move_at P k ≡ t → EarlyTick I P t
  early_start : (k : ℕ) → k < file_count I → read_at I P k < arrives_at I P k → read_at I P k ≡ t → EarlyTick I P t

-- the fault of a tick, in their order at one tick
pub data FaultOf (I : Instance) (P : Schedule) (t : ℕ) : ℕ → Type 0 where
  by15 : LaterStart I P t → FaultOf I P t 15
  by16 : (LaterStart I P t → ⊥) → EarlyTick I P t → FaultOf I P t 16
  by17 : (LaterStart I P t → ⊥) → (EarlyTick I P t → ⊥) → OverLimit I P t → FaultOf I P t 17

-- t is faulty
pub record Faulty (I : Instance) (P : Schedule) (t : ℕ) : Type 0 where
  pub number : ℕ
  pub fault : FaultOf I P t number

-- no tick before u is faulty
abbrev pub Clear : Instance → Schedule → ℕ → Type 0
Clear I P u = (t : ℕ) → t < u → Faulty I P t → ⊥

-- so many ticks before t at which something starts or ends
abbrev pub turns_before : Instance → Schedule → ℕ → ℕ
turns_before I P t = count_where t (is_turn I P)

-- how it ends when so many steps are wanted in all:
pub record Progresses (I : Instance) (P : Schedule) (wanted : ℕ) (a : Simulation) : Type 0 where
  -- steps are left exactly if there is a tick for one more, with no fault before it; all that were wanted are made
  pub left : (a.progress ≡ steps_left) ↔ ((u : ℕ) × Nth (is_turn I P) wanted u × Clear I P u)
  pub left_made : a.progress ≡ steps_left → a.made ≡ wanted
  -- it stops exactly at the first faulty tick, by that tick's fault, if more steps are wanted than there are ticks before it; those are made
  pub stop : (number t : ℕ) → (a.progress ≡ stopped number t) ↔ (First (Faulty I P) t × FaultOf I P t number × (turns_before I P t < wanted))
  pub stop_made : (number t : ℕ) → a.progress ≡ stopped number t → a.made ≡ turns_before I P t
  -- it ends with the span exactly if no tick is faulty and as many steps are wanted as there are ticks, or more; all are made
  pub end : (span : ℕ) → (a.progress ≡ ended span) ↔ ((span ≡ makespan I P) × ((t : ℕ) → Faulty I P t → ⊥) × (turns_before I P (closing I P) ≤ wanted))
  pub end_made : (span : ℕ) → a.progress ≡ ended span → a.made ≡ turns_before I P (closing I P)

-- Not: the marker's order over the whole timetable; a fault after the first; 17 at a tick at which 16 applies too; the end told one step late.
-- Alone it is met by any state; StepLaw rules that out
abbrev pub ProgressLaw : Type 0
ProgressLaw =
    (I : Instance) → WellFormed I → (P : Schedule) (claim : Claim) → Spellable I P claim → (wanted : ℕ) → Progresses I P wanted (watch I P wanted)

-- the first faulty tick is itself one at which something starts or ends, so it is where a step would go.
-- Not: the starts of runs left out of the ticks. Alone it is met by steps to every tick; TurnLaw rules that out
abbrev pub FaultTurn : Type 0
FaultTurn =
    (I : Instance) → WellFormed I → (P : Schedule) (claim : Claim) → Spellable I P claim → (t : ℕ) → First (Faulty I P) t → is_turn I P t ≡ true

-- nothing starts or ends from `closing` on, and there are at most two ticks for each task and each file: 1024 steps are always enough
pub record Bounded (I : Instance) (P : Schedule) : Type 0 where
  pub closed : (t : ℕ) → is_turn I P t ≡ true → t < closing I P
  pub few : (t : ℕ) → turns_before I P t ≤ 2 * (max_tasks + max_files)

-- Not: a `closing` before the last hold ends; steps to every tick. Alone it is met by no ticks at all; TurnLaw rules that out
abbrev pub StepBound : Type 0
StepBound = (I : Instance) → WellFormed I → (P : Schedule) (claim : Claim) → Spellable I P claim → Bounded I P

-- ---- the calls

-- 15, 16 or 17
abbrev pub is_fault : ℕ → Bool
is_fault n = leb 15 n && leb n 17

-- 1 to 4, 11 to 14
abbrev pub is_of_text : ℕ → Bool
is_of_text n = leb 1 n && leb n 4 || leb 11 n && leb n 14

-- what the simulator says, given steps enough, beside the marker's verdict on the same texts
pub record Agrees (sheet timetable : List ℕ) (v : Verdict) (c : Progress) : Type 0 where
  -- a fault stops it exactly where the marker refuses by 15, 16 or 17
  pub of_fault : (is_fault v.number ≡ true) ↔ ((number tick : ℕ) × (c ≡ stopped number tick))
  -- else it ends with the span
  pub of_end : (I : Instance) (P : Schedule) (claim : Claim) → read_instance sheet ≡ accepted I → read_schedule I timetable ≡ read P claim
      → is_fault v.number ≡ false → c ≡ ended (makespan I P)
  -- which is the accepted one
  pub of_span : v.number ≡ 0 → c ≡ ended v.span
  -- where the marker says 17 no tick is faulty by 15 or 16, so it stops by 17 at the marker's instant
  pub of17 : v.number ≡ 17 → c ≡ stopped 17 v.place

-- Not: a timetable with an untrue claim stopped; a fault past the last step missed. Alone it is met by any number and tick of a stop where the marker
-- says 15 or 16; SimulatorLaw rules that out
abbrev pub SimulatorAgrees : Type 0
SimulatorAgrees =
    (sheet timetable : List ℕ) (made steps : ℕ) → max_steps ≤ made + steps →
    Agrees sheet timetable (mark sheet timetable) (simulate sheet timetable made steps).progress

-- a later call that names the steps made goes on from there, as one call of all the steps would.
-- Not: going on from the first step again. Alone it is met by one fixed answer; SimulatorLaw rules that out
abbrev pub GoesOn : Type 0
GoesOn =
    (sheet timetable : List ℕ) (made steps more : ℕ) → 1 ≤ more →
    simulate sheet timetable (simulate sheet timetable made steps).made more ≡ simulate sheet timetable made (steps + more)

-- and naming no more leaves the steps made and the state, after a stop too.
-- Not: a step made unasked; the state before the first again. Alone it is met by one fixed answer; SimulatorLaw rules that out
abbrev pub StaysLaw : Type 0
StaysLaw =
    (sheet timetable : List ℕ) (made steps : ℕ) →
    let a = simulate sheet timetable made steps in
    let b = simulate sheet timetable a.made 0 in
    (b.made ≡ a.made) × (b.state ≡ a.state)

-- one step more, if it is made, goes to the next tick at which something starts or ends: the first of all, or the first later than the step before.
-- Not: a tick jumped over; one stepped to twice. Alone it is met by a simulator that never steps; SimulatorLaw rules that out
abbrev pub NextTick : Type 0
NextTick =
    (sheet timetable : List ℕ) (I : Instance) (P : Schedule) (claim : Claim) → read_instance sheet ≡ accepted I → read_schedule I timetable ≡ read P claim →
    (made : ℕ) → (simulate sheet timetable made 1).made ≡ suc made →
    First (λ u. (is_turn I P u ≡ true) × (0 < made → (simulate sheet timetable made 0).state.time < u)) (simulate sheet timetable made 1).state.time

-- steps already made over 1024 count as 1024 too, since so many are past every stop and end.
-- Not: the steps named told as the steps made. Alone it is met by one fixed answer; SimulatorLaw rules that out
abbrev pub CappedLaw : Type 0
CappedLaw =
    (sheet timetable : List ℕ) (made steps : ℕ) → simulate sheet timetable made steps ≡ simulate sheet timetable (min made max_steps) steps

-- while steps are left it has made as many as were named.
-- Not: a call that makes fewer and says that steps are left. Alone it is met where steps are never left; SimulatorLaw rules that out
abbrev pub LeftLaw : Type 0
LeftLaw =
    (sheet timetable : List ℕ) (made steps : ℕ) → (simulate sheet timetable made steps).progress ≡ steps_left →
    (simulate sheet timetable made steps).made ≡ made + min steps max_steps

-- steps named past the stop or the end give that stop or end.
-- Not: steps counted on past the stop; a stop forgotten by a later call. Alone it is met where steps are always left; SimulatorLaw rules that out
abbrev pub PastLaw : Type 0
PastLaw =
    (sheet timetable : List ℕ) (made steps made' steps' : ℕ) → left_of (simulate sheet timetable made steps).progress ≡ 0 →
    made + min steps max_steps ≤ made' + min steps' max_steps → simulate sheet timetable made' steps' ≡ simulate sheet timetable made steps

-- a text refusal is the marker's and leaves the state before the first, whatever steps are named.
-- Not: the state of an earlier call; steps left before it. Alone it is met by everything refused; TextExact rules that out
abbrev pub TextLaw : Type 0
TextLaw =
    (sheet timetable : List ℕ) (made steps : ℕ) → is_of_text (mark sheet timetable).number ≡ true →
    simulate sheet timetable made steps ≡ refused_text (mark sheet timetable).number (mark sheet timetable).place

-- ---- all of it, as a clause of the call's contract

-- what the answer `a` to a call promises
pub record Simulated (sheet timetable : List ℕ) (made steps : ℕ) (a : Simulation) : Type 0 where
  -- for texts that are read: the state, and how it ends
  pub stepped : (I : Instance) (P : Schedule) (claim : Claim) → read_instance sheet ≡ accepted I → read_schedule I timetable ≡ read P claim → Stepped I P a
  pub progress : (I : Instance) (P : Schedule) (claim : Claim) → read_instance sheet ≡ accepted I → read_schedule I timetable ≡ read P claim
      → Progresses I P (made + min steps max_steps) a
  -- and from `closing` on nothing starts or ends, so that an end has every step made
  pub bounded : (I : Instance) (P : Schedule) (claim : Claim) → read_instance sheet ≡ accepted I → read_schedule I timetable ≡ read P claim → Bounded I P
  -- for texts that are refused: the marker's refusal, with the state before the first
  pub of_text : is_of_text (mark sheet timetable).number ≡ true → a ≡ refused_text (mark sheet timetable).number (mark sheet timetable).place
  -- given steps enough: beside the marker
  pub agrees : max_steps ≤ made + steps → Agrees sheet timetable (mark sheet timetable) a.progress

-- Not: what StepLaw, ProgressLaw, TextLaw and SimulatorAgrees rule out. It fixes the answer (SimulatedOnly)
abbrev pub SimulatorLaw : Type 0
SimulatorLaw = (sheet timetable : List ℕ) (made steps : ℕ) → Simulated sheet timetable made steps (simulate sheet timetable made steps)
