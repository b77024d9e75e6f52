-- `earliest_round` meets its contract. The invariant: the round of the tasks passed.
use lib.ListN.{length}
use Prim.Native.Nat.{◌≤◌, ◌*◌}
use Rattle.selection.specs.Choices.{ChoiceBounds}
use Rattle.selection.proofs.RoundLaws.{Passed}
use Rattle.selection.proofs.trials.Trials.earliest_round.Given as goal

abbrev pub invariant-loop-i : goal.invariant-loop-i
invariant-loop-i l = (l.trials ≤ 2 * l.i) × ChoiceBounds (length l.self.job.tasks.now) l.choice × Passed l.self l.choice l.trials l.i
