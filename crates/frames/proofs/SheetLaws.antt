-- What the exit of a `?` on the reading of a board sheet answers.
use mathlib.Core.Path.{◌≡◌, ap, ◌∙◌}
use Rattle.std.specs.Prelude.{Result, Err, IsErrAnd}
use Rattle.std.proofs.lemmas.Result.{err_from_is_err_and}
use Rattle.rules.specs.declared.refusal.Refusal.{Refusal}

pub exit-err : {T : Type 0} (r : Result T Refusal) (e : Refusal) → IsErrAnd r (λ y. y ≡ e) → r ≡ Err e
exit-err r e q = let p = err_from_is_err_and r q in p.1 ∙ ap Err p.2
