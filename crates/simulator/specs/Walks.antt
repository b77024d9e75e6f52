-- What comes next in a walk: a step, or its end.
use Rattle.std.specs.Prelude.{ℕ, zero, suc, ◌≤◌, Bool, true, false, ◌≡◌}
use Rattle.std.specs.declared.ops.ControlFlow.{ControlFlow}
use Rattle.std.specs.ControlFlow.{MatchControlFlow}
use Rattle.rules.specs.Model.{Instance, Schedule}
use Rattle.rules.specs.Validity.{makespan}
use Rattle.rules.specs.Promises.{First}
use Rattle.rules.specs.Simulation.{State, before, state_at, is_turn, fault_at, Progress, steps_left, stopped, ended}
use Rattle.model.specs.Layout.{last_tick}
use Rattle.simulator.specs.declared.answer.Progress as Code
use Rattle.simulator.specs.Answers.{as_progress}

-- t is the next turn from `from` on
pub record NextTurn (I : Instance) (P : Schedule) (from t : ℕ) : Type 0 where
  pub first : First (λ u. (from ≤ u) × (is_turn I P u ≡ true)) t
  pub bound : t ≤ last_tick

-- there is none
abbrev pub NoTurn : Instance → Schedule → ℕ → Type 0
NoTurn I P from = (u : ℕ) → from ≤ u → is_turn I P u ≡ true → ⊥

-- how a walk ends: at a faulty turn, with no turn left, or, where no step more is wanted, with steps left
pub data Ends (I : Instance) (P : Schedule) (from : ℕ) (wanted : Bool) : Progress → Type 0 where
  at_fault : {n : ℕ} (t : ℕ) → wanted ≡ true → NextTurn I P from t → n ≡ fault_at I P t → 1 ≤ n → Ends I P from wanted (stopped n t)
  at_end : {span : ℕ} → NoTurn I P from → span ≡ makespan I P → Ends I P from wanted (ended span)
  not_wanted : (t : ℕ) → wanted ≡ false → NextTurn I P from t → Ends I P from wanted steps_left

-- what comes next from tick `from` on: a step onto tick t, or the end
abbrev pub Ahead : Instance → Schedule → ℕ → Bool → ControlFlow Code.Progress ℕ → Type 0
Ahead I P from wanted r =
    MatchControlFlow r (λ t. (wanted ≡ true) × NextTurn I P from t × (fault_at I P t ≡ 0)) (λ p. Ends I P from wanted (as_progress p))

-- the state after so many steps, the last of them onto tick t
abbrev pub state_by : Instance → Schedule → ℕ → ℕ → State
state_by I P zero t = before
state_by I P (suc n) t = state_at I P t
