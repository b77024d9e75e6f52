-- The simulator of Order 3, with Order 6: what the board does at each tick, the ticks of its steps, and where it stops.
use Rattle.std.specs.Prelude.{ℕ, zero, suc, ◌+◌, max, min, Bool, true, false, cond, ◌&&◌, ◌||◌, List, length, get_or, replicate, leb, ltb, eqb}
use Rattle.rules.specs.Count.{any_below, first_below, list_below, list_where}
use Rattle.rules.specs.Limits.{max_files, all_processors, max_steps, TextRules, current}
use Rattle.rules.specs.Model.{blue, red, Instance, task_count, file_at, file_count, Schedule, run_at, start_at, finish_at, move_at, moved, made_at, move_end}
use Rattle.rules.specs.Residency.{Hold, never, during, since, hold_of, work_of, is_held, horizon}
use Rattle.rules.specs.Validity.{overlap, over, makespan}
use Rattle.rules.specs.Text.{in_sheet, in_timetable, fault_number}
use Rattle.rules.specs.InstanceText.{refused, accepted, read_instance_by}
use Rattle.rules.specs.ScheduleText.{ScheduleRead, refused as refused_timetable, read, read_schedule_by}

-- ---- the state

-- the time; for each processor the task that it runs, counted from 1, or 0; for each file of the sheet where it is held:
-- 0 in neither memory, 1 in blue, 2 in red, 3 in both. The lists are as long as the limits allow, with 0 behind the board's and the sheet's.
pub record State : Type 0 where
  pub time : ℕ
  pub running : List ℕ
  pub contents : List ℕ

-- before the first step: time 0, nothing running or held
abbrev pub before : State
before = record { time = 0; running = replicate all_processors 0; contents = replicate max_files 0 }

-- task i occupies processor p at tick t
abbrev pub occupies : Instance → Schedule → ℕ → ℕ → ℕ → Bool
occupies I P p t i = eqb (run_at P i).processor p && leb (start_at P i) t && ltb t (finish_at I P i)

-- what processor p runs at tick t; where runs share an instant, the lowest
unfoldable pub running_on : Instance → Schedule → ℕ → ℕ → ℕ
running_on I P t p =
    let i = first_below (task_count I) (occupies I P p t) in
    cond (ltb i (task_count I)) (suc i) 0

abbrev pub memory_number : Bool → Bool → ℕ
memory_number false false = 0
memory_number true false = 1
memory_number false true = 2
memory_number true true = 3

-- where file k is held at tick t: what the hold rule says of each memory
unfoldable pub held_in : Instance → Schedule → ℕ → ℕ → ℕ
held_in I P t k = cond (ltb k (file_count I)) (memory_number (is_held I P blue t k) (is_held I P red t k)) 0

-- the state at tick t
unfoldable pub state_at : Instance → Schedule → ℕ → State
state_at I P t = record {
  time = t;
  running = list_below all_processors (λ p. running_on I P t (suc p));
  contents = list_below max_files (held_in I P t);
}

-- ---- the ticks of the steps

-- a hold starts or ends at tick t; one that would end before it starts, or there, does neither
abbrev pub turns : Hold → ℕ → Bool
turns never t = false
turns (during from end) t = ltb from end && (eqb from t || eqb end t)
turns (since from) t = eqb from t

-- task i's run starts or ends at tick t
abbrev pub run_turns : Instance → Schedule → ℕ → ℕ → Bool
run_turns I P t i = eqb (start_at P i) t || eqb (finish_at I P i) t

-- its run, or the hold of its working memory
abbrev pub task_turns : Instance → Schedule → ℕ → ℕ → Bool
task_turns I P t i = run_turns I P t i || turns (work_of I P blue i) t || turns (work_of I P red i) t

-- file k's move starts or ends at tick t
abbrev pub move_turns : Instance → Schedule → ℕ → ℕ → Bool
move_turns I P t k = moved I P k && (eqb (move_at P k) t || eqb (move_end I P k) t)

-- its move, or its hold in a memory
abbrev pub file_turns : Instance → Schedule → ℕ → ℕ → Bool
file_turns I P t k = move_turns I P t k || turns (hold_of I P blue k) t || turns (hold_of I P red k) t

-- a run, a move or a hold starts or ends at tick t
unfoldable pub is_turn : Instance → Schedule → ℕ → Bool
is_turn I P t = any_below (task_count I) (task_turns I P t) || any_below (file_count I) (file_turns I P t)

-- ---- the faults

-- 15: two runs on one processor share an instant, and tick t is the later of their starts
abbrev pub shares_from : Instance → Schedule → ℕ → ℕ → ℕ → Bool
shares_from I P t i j = overlap I P i j && eqb (max (start_at P i) (start_at P j)) t

abbrev pub task_shares : Instance → Schedule → ℕ → ℕ → Bool
task_shares I P t i = any_below (task_count I) (shares_from I P t i)

unfoldable pub shares_at : Instance → Schedule → ℕ → Bool
shares_at I P t = any_below (task_count I) (task_shares I P t)

-- when file k arrives
abbrev pub arrives_at : Instance → Schedule → ℕ → ℕ
arrives_at I P k = cond (moved I P k) (move_end I P k) (made_at I P k)

-- when file k's reader starts
abbrev pub read_at : Instance → Schedule → ℕ → ℕ
read_at I P k = start_at P (file_at I k).reader

-- file k moves before it is made
abbrev pub moves_early : Instance → Schedule → ℕ → Bool
moves_early I P k = moved I P k && ltb (move_at P k) (made_at I P k)

-- its reader starts before it arrived
abbrev pub starts_early : Instance → Schedule → ℕ → Bool
starts_early I P k = ltb (read_at I P k) (arrives_at I P k)

-- 16: tick t is the early move, or the early start, of file k
abbrev pub file_early : Instance → Schedule → ℕ → ℕ → Bool
file_early I P t k = moves_early I P k && eqb (move_at P k) t || starts_early I P k && eqb (read_at I P k) t

unfoldable pub early_at : Instance → Schedule → ℕ → Bool
early_at I P t = any_below (file_count I) (file_early I P t)

-- the fault of tick t, in their order; 0 if it has none
unfoldable pub fault_at : Instance → Schedule → ℕ → ℕ
fault_at I P t = cond (shares_at I P t) 15 (cond (early_at I P t) 16 (cond (over I P t) 17 0))

abbrev pub is_faulty : Instance → Schedule → ℕ → Bool
is_faulty I P t = ltb 0 (fault_at I P t)

-- ---- stepping

-- of a complete timetable: a tick from which on nothing starts, ends or is faulty
unfoldable pub closing : Instance → Schedule → ℕ
closing I P = suc (max (makespan I P) (max (horizon I P blue) (horizon I P red)))

-- the first faulty tick; `closing` if there is none
unfoldable pub first_faulty : Instance → Schedule → ℕ
first_faulty I P = first_below (closing I P) (is_faulty I P)

-- the ticks of the steps that can be made: those before the first faulty tick, rising
unfoldable pub step_ticks : Instance → Schedule → List ℕ
step_ticks I P = list_where (first_faulty I P) (is_turn I P)

unfoldable pub step_count : Instance → Schedule → ℕ
step_count I P = length (step_ticks I P)

-- the state after so many steps
abbrev pub state_after : Instance → Schedule → ℕ → State
state_after I P zero = before
state_after I P (suc k) = state_at I P (get_or (step_ticks I P) k 0)

-- ---- the answer

-- how it ends: a text refused, by number and place; steps left; stopped for a fault, by number and tick; or all steps made, with the span
pub data Progress : Type 0 where
  refused_by : ℕ → ℕ → Progress
  steps_left : Progress
  stopped : ℕ → ℕ → Progress
  ended : ℕ → Progress

-- with the steps made in all, and the state that it leaves
pub record Simulation : Type 0 where
  pub progress : Progress
  pub made : ℕ
  pub state : State

-- document 02's number, place and span of each
abbrev pub number_of : Progress → ℕ
number_of (refused_by number place) = number
number_of steps_left = 0
number_of (stopped number tick) = number
number_of (ended span) = 0

abbrev pub place_of : Progress → ℕ
place_of (refused_by number place) = place
place_of steps_left = 0
place_of (stopped number tick) = tick
place_of (ended span) = 0

abbrev pub span_of : Progress → ℕ
span_of (refused_by number place) = 0
span_of steps_left = 0
span_of (stopped number tick) = 0
span_of (ended span) = span

-- 1 if steps are left
abbrev pub left_of : Progress → ℕ
left_of (refused_by number place) = 0
left_of steps_left = 1
left_of (stopped number tick) = 0
left_of (ended span) = 0

-- how it ends when so many steps are wanted in all: the step onto the first faulty tick is not made
unfoldable pub progress_of : Instance → Schedule → ℕ → Progress
progress_of I P wanted =
    cond (ltb (first_faulty I P) (closing I P))
    (cond (leb wanted (step_count I P)) steps_left (stopped (fault_at I P (first_faulty I P)) (first_faulty I P)))
    (cond (ltb wanted (step_count I P)) steps_left (ended (makespan I P)))

unfoldable pub watch : Instance → Schedule → ℕ → Simulation
watch I P wanted =
    let made = min wanted (step_count I P) in
    record { progress = progress_of I P wanted; made = made; state = state_after I P made }

abbrev pub refused_text : ℕ → ℕ → Simulation
refused_text number place = record { progress = refused_by number place; made = 0; state = before }

-- the simulator behind an accepted sheet: by what was read of a timetable, and on a timetable
abbrev pub simulate_read : Instance → ScheduleRead → ℕ → ℕ → Simulation
simulate_read I (refused_timetable w k) made steps = refused_text (fault_number in_timetable w) k
simulate_read I (read P c) made steps = watch I P (made + min steps max_steps)

abbrev pub simulate_on_by : TextRules → Instance → List ℕ → ℕ → ℕ → Simulation
simulate_on_by L I timetable made steps = simulate_read I (read_schedule_by L I timetable) made steps

abbrev pub simulate_on : Instance → List ℕ → ℕ → ℕ → Simulation
simulate_on = simulate_on_by current

-- the simulator: on a board sheet and a timetable, so many steps from the steps already made
unfoldable pub simulate_by : TextRules → List ℕ → List ℕ → ℕ → ℕ → Simulation
simulate_by L sheet timetable made steps =
    elim (read_instance_by L sheet) [
      | refused w k ↦ refused_text (fault_number in_sheet w) k
      | accepted I ↦ simulate_on_by L I timetable made steps
    ]

abbrev pub simulate : List ℕ → List ℕ → ℕ → ℕ → Simulation
simulate = simulate_by current
