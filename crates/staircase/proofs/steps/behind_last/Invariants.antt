-- No step passed meets the test.
use Rattle.std.proofs.Common.{ℕ, ◌≤◌, ◌<◌, false, length, get_or}
use Rattle.std.specs.Fn.{FnReturnsAt}
use Rattle.staircase.specs.Steps.{no_step}
use Rattle.staircase.proofs.steps.behind_last.Given as goal

abbrev pub invariant-loop-k : goal.invariant-loop-k
invariant-loop-k g l = (j : ℕ) → l.k ≤ j → j < length l.steps → FnReturnsAt g.F.Fn l.test (get_or l.steps j no_step) false
