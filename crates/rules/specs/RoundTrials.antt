-- The trials that a round makes.
use Rattle.std.specs.Prelude.{ℕ, Bool, true, ◌&&◌, ◌||◌, ◌≡◌, leb, ltb, eqb}
use Rattle.rules.specs.Count.{sum_where}
use Rattle.rules.specs.Model.{Instance, task_count}
use Rattle.rules.specs.Scheduling.{Partial, ready, weight, Choice, nothing, choose, Planner, heft, min_min, round_of}

-- the tasks that a round tries if they are ready: MINMIN all, HEFT those of its list down to the one chosen, all if none fits; memory aware or plain
abbrev pub tried_by : Planner → Instance → Choice → ℕ → Bool
tried_by (min_min m) I x j = true
tried_by (heft m) I nothing j = true
tried_by (heft m) I (choose i c s) j = ltb (weight I i) (weight I j) || eqb (weight I i) (weight I j) && leb j i

-- the trials of a round: a task on a colour counts one.
-- Not: a count of 0, or of the rounds; blue alone counted where it fits; tasks counted that are not ready, or behind HEFT's choice. It fixes the count
abbrev pub TrialLaw : Type 0
TrialLaw =
    (R : Planner) (I : Instance) (Q : Partial) →
    (round_of R I Q).trials ≡ sum_where (task_count I) (λ j. ready I Q.schedule j && tried_by R I (round_of R I Q).choice j) (λ j. 2)
