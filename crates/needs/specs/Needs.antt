-- When a task's need is right for a partial timetable.
use Rattle.std.specs.Prelude.{ℕ, ◌+◌, ◌≤◌, ◌<◌, true, false, List, ◌≡◌, get_or}
use Rattle.rules.specs.Limits.{max_tasks, max_files}
use Rattle.rules.specs.Model.{Instance, Schedule, work_at}
use Rattle.rules.specs.Scheduling.{ready, output_size}
use Rattle.rules.specs.Staircase.{input_size}
use Rattle.model.specs.declared.colour.Colour.{Colour}
use Rattle.model.specs.Colours.{as_colour, own}
use Rattle.model.specs.Layout.{most_held}
use Rattle.needs.specs.declared.demand.Demand.{Demand}
use Rattle.needs.specs.declared.table.Need.{Need}
use Rattle.needs.specs.Demands.{DemandOf, DemandBounds}

abbrev pub no_demand : Demand
no_demand = record { incoming = 0; arrival = 0; longest = 0 }

abbrev pub no_need : Need
no_need = record { ready = false; room = 0; kept = 0; demand = record { blue = no_demand; red = no_demand } }

-- the sizes of task i are right
pub record Sized (I : Instance) (i : ℕ) (x : Need) : Type 0 where
  pub room : x.room ≡ output_size I i + work_at I i
  pub kept : x.kept ≡ input_size I i + work_at I i

-- its mark is, and if it is ready, its demands are
pub record Admitted (I : Instance) (P : Schedule) (i : ℕ) (x : Need) : Type 0 where
  pub is_ready : x.ready ≡ ready I P i
  pub demand : ready I P i ≡ true → (c : Colour) → DemandOf I P i (as_colour c) (own c x.demand)

-- what the code needs of its numbers, whatever they mean
pub record NeedBounds (x : Need) : Type 0 where
  pub room : x.room ≤ most_held
  pub kept : x.kept ≤ most_held
  pub blue : DemandBounds max_files x.demand.blue
  pub red : DemandBounds max_files x.demand.red

-- the same of all needs
pub record NeedsBounds (xs : List Need) : Type 0 where
  pub each : (i : ℕ) → i < max_tasks → NeedBounds (get_or xs i no_need)
