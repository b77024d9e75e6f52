-- The laws of `least_where`.
use Prim.Native.Nat.{ℕ, zero, suc, ◌+◌, ◌≤◌, ◌<◌, min}
use mathlib.Core.Bool.{Bool, true, cond}
use mathlib.Core.Path.{◌≡◌, refl}
use native.Mathlib.Numerals.{add-one}
use native.Mathlib.Omega.{arith}
use native.Mathlib.Decide.{dec_le, ℕ_discrete}
use Rattle.rules.proofs.Tests.{split}
use Rattle.validator.specs.Least.{least_where}

module _ (d : ℕ) (p : ℕ → Bool) (f : ℕ → ℕ) where
  pub least-none : least_where 0 d p f ≡ d
  unfolding least_where
  least-none = refl

  pub least-next : (n : ℕ) → least_where (n + 1) d p f ≡ min (least_where n d p f) (cond (p n) (f n) d)
  unfolding least_where
  least-next n = rw (add-one n)

  pub least-default : (n : ℕ) → least_where n d p f ≤ d
  unfolding least_where
  least-default zero = omega arith
  least-default (suc n) = omega (arith, least-default n)

  pub least-bound : (n k : ℕ) → k < n → p k ≡ true → least_where n d p f ≤ f k
  unfolding least_where
  least-bound zero k l e = absurd (omega arith)
  least-bound (suc n) k l e = elim (ℕ_discrete k n) [
    | yes q ↦ let z : p n ≡ true = rw q at e in rw (z, q) (omega arith)
    | no q ↦ omega (arith, least-bound n k (omega arith) e)
  ]

  pub least-reached : (n : ℕ) → least_where n d p f < d → (k : ℕ) × (k < n) × (p k ≡ true) × (f k ≡ least_where n d p f)
  unfolding least_where
  least-reached zero h = absurd (omega arith)
  least-reached (suc n) h = elim (dec_le (least_where n d p f) (cond (p n) (f n) d)) [
    | yes l ↦ let r = least-reached n (omega arith) in (r.0, omega (arith, r.1), r.2, omega (arith, r.3))
    | no l ↦ split (p n)
        (λ e. (n, omega arith, e, let z : cond (p n) (f n) d ≡ f n = rw e in omega arith))
        (λ e. absurd (let z : cond (p n) (f n) d ≡ d = rw e in omega (arith, least-default n)))
  ]

-- one turn of a loop that takes the least
pub least-turn : (d : ℕ) (p : ℕ → Bool) (f : ℕ → ℕ) (i : ℕ) {b : Bool} {s r : ℕ} → r ≡ cond b s d → b ≡ p i → s ≡ f i
    → least_where (i + 1) d p f ≡ min (least_where i d p f) r
least-turn d p f i {r = r} e g h = let z : r ≡ cond (p i) (f i) d = rw (g, h) at e in omega (arith, least-next d p f i)
