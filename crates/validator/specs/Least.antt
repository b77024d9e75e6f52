-- The least value where a test holds.
use Rattle.std.specs.Prelude.{ℕ, zero, suc, min, Bool, cond}

-- the least of f over the indices below n of which p holds, and of d
unfoldable pub least_where : ℕ → ℕ → (ℕ → Bool) → (ℕ → ℕ) → ℕ
least_where zero d p f = d
least_where (suc n) d p f = min (least_where n d p f) (cond (p n) (f n) d)
