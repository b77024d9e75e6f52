-- The steps of a staircase as the rules have them, and what the code asks of them.
use Rattle.std.specs.Prelude.{ℕ, suc, ◌+◌, ◌*◌, ◌≤◌, ◌<◌, Bool, true, List, [], ◌∷◌, ◌≡◌, map, length, get_or, Some, None}
use Rattle.std.specs.Prelude as Std
use Rattle.std.proofs.Math.Option.{Option, none, some}
use Rattle.rules.specs.Limits.{max_files, memory_limits, file_sizes, work_sizes}
use Rattle.rules.specs.Changes.{Change}
use Rattle.rules.specs.Staircase.{Step as Pair, step_at, free_by}
use Rattle.staircase.specs.declared.Step.{Step}

-- the code's step, as the rules have it
abbrev pub as_step : Step → Pair
as_step s = record { tick = s.tick; free = s.free }

abbrev pub as_steps : List Step → List Pair
as_steps xs = map as_step xs

-- what is read past the last step
abbrev pub no_step : Step
no_step = record { tick = 0; free = 0 }

-- the staircase of an empty plan
abbrev pub start_steps : ℕ → List Pair
start_steps limit = record { tick = 0; free = limit } ∷ []

-- ---- a change

abbrev pub change_by : ℕ → ℕ → Bool → Change
change_by tick amount rises = record { tick = tick; rises = rises; amount = amount }

-- a step after it
abbrev pub with_change : ℕ → Bool → Step → Step
with_change amount rises s = record { tick = s.tick; free = free_by (change_by 0 amount rises) s.free }

-- a limit and what the changes of one placing come to at most: no free amount is above it while they are made
abbrev pub max_free : ℕ
max_free = memory_limits.most + 2 * (max_files * file_sizes.most + work_sizes.most)

-- a first step at tick 0, ascending
pub record Ascending (xs : List Pair) : Type 0 where
  pub one : 0 < length xs
  pub first : (step_at xs 0).tick ≡ 0
  pub up : (k : ℕ) → suc k < length xs → (step_at xs k).tick < (step_at xs (suc k)).tick

-- a change keeps every amount in range; a rise takes no more than a step has that goes on past its tick
pub record Fits (xs : List Pair) (x : Change) : Type 0 where
  pub most : (k : ℕ) → k < length xs → (step_at xs k).free + x.amount ≤ max_free
  pub enough : x.rises ≡ true → (k : ℕ) → k < length xs → (suc k < length xs → x.tick < (step_at xs (suc k)).tick)
      → x.amount ≤ (step_at xs k).free

-- the same of steps that all change
pub record Fit (amount : ℕ) (rises : Bool) (xs : List Step) : Type 0 where
  pub most : (k : ℕ) → k < length xs → (get_or xs k no_step).free + amount ≤ max_free
  pub enough : rises ≡ true → (k : ℕ) → k < length xs → amount ≤ (get_or xs k no_step).free

-- p is behind the last step that is before `tick`
pub record Position (xs : List Pair) (tick p : ℕ) : Type 0 where
  pub within : p ≤ length xs
  pub before : (k : ℕ) → suc k ≡ p → (step_at xs k).tick < tick
  pub after : (k : ℕ) → p ≤ k → k < length xs → tick ≤ (step_at xs k).tick

-- what a change of steps is made from: p is behind the last one before its tick
pub record Here (x : Change) (p : ℕ) (xs : List Step) : Type 0 where
  pub ascending : Ascending (as_steps xs)
  pub fits : Fits (as_steps xs) x
  pub position : Position (as_steps xs) x.tick p

-- ---- a reading

-- the rules' words for what the code reads
abbrev pub as_option : Std.Option ℕ → Option ℕ
as_option None = none
as_option (Some t) = some t
