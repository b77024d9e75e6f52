-- What the memories say of a schedule, from the changes of both in time order.
use Rattle.std.specs.Prelude.{ℕ, List, ◌≡◌}
use Rattle.std.proofs.Math.Option.{Option}
use Rattle.rules.specs.Model.{blue, red, Instance, limit_of, Schedule}
use Rattle.rules.specs.Changes.{Change, InTime, greatest_total, first_over, sooner}

-- the first instant over a limit, and both peaks, of some lists of the changes in time order
pub record ByChanges (I : Instance) (P : Schedule) (over : Option ℕ) (blue_peak red_peak : ℕ) : Type 0 where
  pub blues : List Change
  pub reds : List Change
  pub blue_in_time : InTime I P blue blues
  pub red_in_time : InTime I P red reds
  pub is_first : over ≡ sooner (first_over (limit_of I blue) blues) (first_over (limit_of I red) reds)
  pub is_blue_peak : blue_peak ≡ greatest_total blues
  pub is_red_peak : red_peak ≡ greatest_total reds
