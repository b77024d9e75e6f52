-- `first_overlap` meets its contract. The invariant: no run before i overlaps a later one.

use Rattle.runs.proofs.FirstOverlapLaws.{Clear}
use Rattle.runs.proofs.first_overlap.Given as goal

abbrev pub invariant-loop-i : goal.invariant-loop-i
invariant-loop-i l = Clear l.runs l.i
