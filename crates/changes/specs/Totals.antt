-- What the running total over a memory's changes tells.
use Rattle.std.specs.Prelude.{ℕ, List, ◌≡◌, Bool, true, false, Option, Some, None}
use Rattle.std.proofs.Math.Option.{Option as RulesOption, none, some}
use Rattle.rules.specs.Model.{Colour, Instance, Schedule}
use Rattle.rules.specs.Changes.{Change, InTime, greatest_total, first_over}

-- a tick, if there is one, as the rules have it
abbrev pub over_of : Option ℕ → RulesOption ℕ
over_of (Some t) = some t
over_of None = none

-- the first tick over a limit, once a change at the tick comes behind: `is_over` says that the total is over it then
abbrev pub over_next : Option ℕ → Bool → ℕ → Option ℕ
over_next (Some t) is_over tick = Some t
over_next None true tick = Some tick
over_next None false tick = None

-- memory c's changes in some time order: the greatest running total over them, and the first tick over a limit
pub record TotalsOf (I : Instance) (P : Schedule) (c : Colour) (limit greatest : ℕ) (over : RulesOption ℕ) : Type 0 where
  pub taken : List Change
  pub in_time : InTime I P c taken
  pub most : greatest ≡ greatest_total taken
  pub first : over ≡ first_over limit taken
