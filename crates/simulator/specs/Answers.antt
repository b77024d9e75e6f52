-- The code's answer, as the rules have it.
use Rattle.std.specs.Prelude.{ℕ, Option, Some, None, Result, Ok, Err}
use Rattle.rules.specs.Simulation as Rules
use Rattle.rules.specs.Refusals.{refusal_number, refusal_place}
use Rattle.rules.specs.declared.refusal.Refusal.{Refusal}
use Rattle.simulator.specs.declared.answer.TickFault.{TickFault}
use Rattle.simulator.specs.declared.answer.TickFault.TheVariants.{Overlap, Early, OverLimit}
use Rattle.simulator.specs.declared.answer.Progress.{Progress}
use Rattle.simulator.specs.declared.answer.Progress.TheVariants.{StepsLeft, Stopped, Ended}
use Rattle.simulator.specs.declared.answer.Simulation.{Simulation}

-- document 01's number of a fault,
abbrev pub fault_number : TickFault → ℕ
fault_number Overlap = 15
fault_number Early = 16
fault_number OverLimit = 17

-- and 0 of none
abbrev pub number_at : Option TickFault → ℕ
number_at (Some f) = fault_number f
number_at None = 0

abbrev pub as_progress : Progress → Rules.Progress
as_progress StepsLeft = Rules.steps_left
as_progress (Stopped fault tick) = Rules.stopped (fault_number fault) tick
as_progress (Ended span) = Rules.ended span

abbrev pub as_simulation : Simulation → Rules.Simulation
as_simulation a = record {
  progress = as_progress a.progress;
  made = a.made;
  state = record { time = a.time; running = a.running; contents = a.contents };
}

-- a refused text is an answer of the rules' too, with the state before the first step
abbrev pub as_answer : Result Simulation Refusal → Rules.Simulation
as_answer (Ok a) = as_simulation a
as_answer (Err r) = Rules.refused_text (refusal_number r) (refusal_place r)
