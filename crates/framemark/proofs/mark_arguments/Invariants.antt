-- At each turn one paper fewer is left.
use Rattle.std.proofs.Common.{◌-◌}
use Rattle.framemark.proofs.mark_arguments.Given as goal

abbrev pub decreases-loop-i : goal.decreases-loop-i
decreases-loop-i g l = l.count - l.i
