-- `loosened` meets its contract.
use mathlib.Core.Path.{refl}
use Rattle.planner.proofs.loosened.Goals as goal

pub returns : goal.returns
returns c = refl
