-- A round of the code's planner, by its rule.
use mathlib.Core.List.{List}
use mathlib.Core.Path.{◌≡◌}
use Prim.Native.Nat.{ℕ}
use Rattle.rules.specs.Model.{Instance, task_count}
use Rattle.rules.specs.Scheduling.{Partial, Round, by_weight, first_that_fits, earliest_below, memory_of, round_of}
use Rattle.rules.specs.Scheduling as Rules
use Rattle.starts.specs.declared.memory.Memory.{Memory}
use Rattle.planner.specs.declared.Rule.{Rule}
use Rattle.planner.specs.declared.Rule.TheVariants.{Heft, MinMin}
use Rattle.planner.specs.Outcomes.{as_planner}

-- k is the planner's mark for memory
module _ {rule : Rule} {k : Rules.Memory} (mark : k ≡ memory_of (as_planner rule)) {m : Memory} (I : Instance) (Q : Partial) {found : Round} where
  pub heft-round : {order : List ℕ} → rule ≡ Heft m → order ≡ by_weight I (task_count I) → found ≡ first_that_fits k I Q order
      → found ≡ round_of (as_planner rule) I Q
  unfolding round_of
  heft-round e o f = let n = rw e at mark in rw e (rw (n, o) at f)

  pub min-min-round : rule ≡ MinMin m → found ≡ earliest_below k I Q (task_count I) → found ≡ round_of (as_planner rule) I Q
  unfolding round_of
  min-min-round e f = let n = rw e at mark in rw e (rw n at f)
