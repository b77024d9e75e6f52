-- `line_from` meets its contract. The invariant: the line looked for is line n - k of what is left.
use Prim.Native.Nat.{◌-◌}
use Rattle.text.proofs.LineAtLaws.{Skipping}
use Rattle.text.proofs.lines.line_from.Given as goal

abbrev pub invariant-loop-k : goal.invariant-loop-k
invariant-loop-k l = Skipping l.text l.n l.rest (l.n - l._k)
