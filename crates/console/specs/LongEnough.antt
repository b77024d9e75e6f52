-- The buffer lent to a call that writes one text was long enough for its answer.
use Rattle.std.specs.Prelude.{ℕ, ◌≤◌, ◌≡◌, List, length, Result, IfOk, Err}
use Rattle.rules.specs.declared.refusal.Refusal.{Refusal}
use Rattle.rules.specs.declared.refusal.Refusal.TheVariants.{Short}

-- on success the text lies in the buffer, and 31 is not the answer
pub record LongEnough (written : Result ℕ Refusal) (buffer : List ℕ) : Type 0 where
  pub within : IfOk written (λ n. n ≤ length buffer)
  pub not_short : (n : ℕ) → written ≡ Err (Short n) → ⊥
