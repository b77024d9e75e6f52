-- `text::numerals::number_size` meets its contract: n digits are counted, and v has the others and one that is counted.
use Prim.Native.Nat.{◌+◌, ◌≤◌}
use mathlib.Core.Path.{◌≡◌}
use lib.ListN.{length}
use Rattle.rules.specs.Text.{decimal}
use Rattle.text.proofs.numerals.number_size.Given as goal

abbrev pub invariant-loop-v : goal.invariant-loop-v
invariant-loop-v l = (l.n + l.v ≤ l.value + 1) × (l.n + length (decimal l.v) ≡ length (decimal l.value) + 1)

abbrev pub decreases-loop-v : goal.decreases-loop-v
decreases-loop-v l = l.v
