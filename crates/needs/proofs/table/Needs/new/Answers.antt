-- `new` meets its type.
use mathlib.Core.Path.{refl}
use Rattle.needs.proofs.NeedsLaws.{none_bounds}
use Rattle.needs.proofs.table.Needs.new.Goals as goal

pub invariant_of-result : goal.invariant_of-result
invariant_of-result c = record { whole = refl; bounds = rw (c.new.ensures, c.new-2.ensures) none_bounds }

pub returns : goal.returns
returns c = rw (c.new.ensures, c.new-2.ensures) refl
