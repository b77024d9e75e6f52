-- What a planner keeps beside a partial timetable, and what the code needs of its numbers.
use Rattle.std.specs.Prelude.{ℕ, ◌+◌, ◌≤◌, ◌<◌, List, ◌≡◌, length}
use Rattle.rules.specs.Model.{blue, red, Instance, work_at}
use Rattle.rules.specs.Promises.{WellFormed}
use Rattle.rules.specs.Scheduling.{Partial, output_size, processor_start}
use Rattle.rules.specs.Staircase.{Step, step_at, Placed}
use Rattle.model.specs.declared.colour.ByColour.{ByColour}
use Rattle.model.specs.declared.colour.Colour.{Colour}
use Rattle.model.specs.Colours.{as_colour, own}
use Rattle.model.specs.Layout.{last_tick}
use Rattle.staircase.specs.Stairs.{HoldsStairs}
use Rattle.needs.specs.Demands.{DemandOf}
use Rattle.needs.specs.declared.table.Need.{Need}
use Rattle.needs.specs.declared.table.Needs.{Needs}
use Rattle.needs.specs.Tables.{Right}

-- beside the partial timetable Q: what a trial asks of the files, and both memories' lists of pairs by the hold rule
pub record Kept (I : Instance) (Q : Partial) (table : Needs) (stairs : ByColour (List Step)) : Type 0 where
  pub well_formed : WellFormed I
  pub placed : Placed I Q
  pub needs : Right I Q.schedule table
  pub blue : HoldsStairs I Q.schedule blue stairs.blue
  pub red : HoldsStairs I Q.schedule red stairs.red

-- what a trial of task i on a colour goes by: the task's need, the colour's own staircase, and start 1
pub record Tried (I : Instance) (Q : Partial) (need : Need) (steps : List Step) (one i : ℕ) (c : Colour) : Type 0 where
  pub well_formed : WellFormed I
  pub placed : Placed I Q
  pub demand : DemandOf I Q.schedule i (as_colour c) (own c need.demand)
  pub room : need.room ≡ output_size I i + work_at I i
  pub stairs : HoldsStairs I Q.schedule (as_colour c) steps
  pub idle : one ≡ processor_start I Q (as_colour c)

-- ---- the numbers alone

-- no step at a later tick than the last
pub record TicksWithin (steps : List Step) : Type 0 where
  pub last : (k : ℕ) → k < length steps → (step_at steps k).tick ≤ last_tick

pub record StairsBounds (stairs : ByColour (List Step)) : Type 0 where
  pub blue : TicksWithin stairs.blue
  pub red : TicksWithin stairs.red
