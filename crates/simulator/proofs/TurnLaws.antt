-- The next turn of a hold, a run, a move, a task and a file, by what the code reads of them; and of all of them.
use Rattle.std.proofs.Common.{ℕ, ◌≡◌, refl, Bool, true, false, ◌||◌, Option}
use Rattle.rules.specs.Count.{any_below}
use Rattle.rules.specs.Model.{blue, red, Instance, task_count, file_count, Schedule}
use Rattle.rules.specs.Residency as Rules
use Rattle.rules.specs.Residency.{hold_of, work_of}
use Rattle.rules.specs.Simulation.{turns, run_turns, task_turns, move_turns, file_turns, is_turn}
use Rattle.model.specs.declared.residency.Hold.{Hold}
use Rattle.model.specs.Holds.{as_hold}
use Rattle.model.specs.Ticks.{sooner}
use Rattle.simulator.specs.Turns.{Soonest}
use Rattle.simulator.proofs.SoonestLaws.{soonest-same, soonest-or}

-- ---- the holds of both memories, beside another test

either-of-three : (a b d : Bool) → a || (b || d) ≡ a || b || d
either-of-three true b d = refl
either-of-three false b d = refl

beside-holds : (p : ℕ → Bool) (from : ℕ) (x y : Hold) {g h : Rules.Hold} (a b : Option ℕ) → as_hold x ≡ g → as_hold y ≡ h → Soonest p from a
    → Soonest (λ u. turns (as_hold x) u || turns (as_hold y) u) from b → Soonest (λ u. p u || turns g u || turns h u) from (sooner a b)
beside-holds p from x y a b e f s t =
    soonest-same (λ u. rw (← e, ← f) (either-of-three (p u) (turns (as_hold x) u) (turns (as_hold y) u))) from (sooner a b)
    (soonest-or p (λ u. turns (as_hold x) u || turns (as_hold y) u) from a b s t)

module _ (I : Instance) (P : Schedule) (from : ℕ) where
  -- ---- a task, a file

  module _ (x y : Hold) (a d : Option ℕ) where
    pub task-turns : (i : ℕ) → as_hold x ≡ work_of I P blue i → as_hold y ≡ work_of I P red i → Soonest (λ u. run_turns I P u i) from a
        → Soonest (λ u. turns (as_hold x) u || turns (as_hold y) u) from d → Soonest (λ u. task_turns I P u i) from (sooner a d)
    task-turns i = beside-holds (λ u. run_turns I P u i) from x y a d

    pub file-turns : (k : ℕ) → as_hold x ≡ hold_of I P blue k → as_hold y ≡ hold_of I P red k → Soonest (λ u. move_turns I P u k) from a
        → Soonest (λ u. turns (as_hold x) u || turns (as_hold y) u) from d → Soonest (λ u. file_turns I P u k) from (sooner a d)
    file-turns k = beside-holds (λ u. move_turns I P u k) from x y a d

turn_is : (I : Instance) (P : Schedule) (u : ℕ) → any_below (task_count I) (task_turns I P u) || any_below (file_count I) (file_turns I P u) ≡ is_turn I P u
unfolding is_turn
turn_is I P u = refl

pub all-turns : (I : Instance) (P : Schedule) (from : ℕ) (a b : Option ℕ) → Soonest (λ u. any_below (task_count I) (task_turns I P u)) from a
    → Soonest (λ u. any_below (file_count I) (file_turns I P u)) from b → Soonest (is_turn I P) from (sooner a b)
all-turns I P from a b x y =
    soonest-same (turn_is I P) from (sooner a b)
    (soonest-or (λ u. any_below (task_count I) (task_turns I P u)) (λ u. any_below (file_count I) (file_turns I P u)) from a b x y)
