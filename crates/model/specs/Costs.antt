-- What a file costs a task, as the rules have it.
use Rattle.std.specs.Prelude.{ℕ, cond, ◌≡◌}
use Rattle.rules.specs.Model.{Colour, Instance, Schedule, size_at, move_time_at}
use Rattle.rules.specs.Scheduling.{crossing}
use Rattle.model.specs.declared.crossing.Cost.{Cost}

-- what file k adds to a trial of task i on colour c
pub record CostOf (I : Instance) (P : Schedule) (i : ℕ) (c : Colour) (k : ℕ) (x : Cost) : Type 0 where
  pub move_time : x.move_time ≡ cond (crossing I P i c k) (move_time_at I k) 0
  pub newly_held : x.newly_held ≡ cond (crossing I P i c k) (size_at I k) 0
