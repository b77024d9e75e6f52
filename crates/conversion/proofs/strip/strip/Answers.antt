-- `strip` meets its contract.
use native.Mathlib.Omega.{arith}
use Rattle.conversion.proofs.StripLaws.{kept}
use Rattle.conversion.proofs.strip.strip.Goals as goal

pub returns : goal.returns
returns c =
    let a = c.args in
    kept a.tasks a.files a.added a.from.now a.to.now _ _ (omega arith) (omega arith) c.copy_from_slice.ensures.after c.copy_from_slice-2.ensures.after
