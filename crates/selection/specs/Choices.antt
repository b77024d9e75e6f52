-- The code's choice and round, as the rules have them, and the bounds of what they hold.
use Rattle.std.specs.Prelude.{ℕ, ◌≤◌, ◌<◌, Bool, true, false, List, ◌≡◌, length, get_or, Option, None, Some, IfSome}
use Rattle.rules.specs.Model.{blue, red, Instance}
use Rattle.std.specs.Borrow.{Bor}
use Rattle.rules.specs.Staircase.{Step as Pair}
use Rattle.rules.specs.Scheduling.{Partial, processor_start, Choice as Chosen, nothing, choose, Round as Made}
use Rattle.model.specs.declared.colour.ByColour.{ByColour}
use Rattle.model.specs.Colours.{as_colour}
use Rattle.model.specs.Layout.{last_tick, last_start}
use Rattle.model.specs.declared.trial.Trial.{Trial}
use Rattle.staircase.specs.declared.Step.{Step}
use Rattle.staircase.specs.Steps.{as_steps}
use Rattle.selection.specs.declared.round.Round.{Round}

abbrev pub as_choice : Option Trial → Chosen
as_choice None = nothing
as_choice (Some t) = choose t.task (as_colour t.colour) t.start

abbrev pub as_round : Round → Made
as_round r = record { choice = as_choice r.choice; trials = r.trials }

-- whether there is something to be placed
abbrev pub is_chosen : Chosen → Bool
is_chosen nothing = false
is_chosen (choose i c s) = true

-- a trial's task is one of n, and its start is no later than an earliest start can be
abbrev pub TrialBounds : ℕ → Trial → Type 0
TrialBounds n t = (t.task < n) × (t.start ≤ last_start)

abbrev pub ChoiceBounds : ℕ → Option Trial → Type 0
ChoiceBounds n choice = IfSome choice (TrialBounds n)

-- each of the tasks listed is one of n, and no more than n are listed
pub record OrderBounds (n : ℕ) (order : List ℕ) : Type 0 where
  pub count : length order ≤ n
  pub exists : (p : ℕ) → p < length order → get_or order p 0 < n

-- start 1 of each colour
pub record IdleOf (I : Instance) (Q : Partial) (x : ByColour ℕ) : Type 0 where
  pub blue : x.blue ≡ processor_start I Q blue
  pub red : x.red ≡ processor_start I Q red

-- neither is later than a finish can be
abbrev pub IdleBounds : ByColour ℕ → Type 0
IdleBounds x = (x.blue ≤ last_tick) × (x.red ≤ last_tick)

-- both memories' lists of pairs, of the steps lent
abbrev pub stairs_in : ByColour (Bor (List Step)) → ByColour (List Pair)
stairs_in x = record { blue = as_steps x.blue.now; red = as_steps x.red.now }
