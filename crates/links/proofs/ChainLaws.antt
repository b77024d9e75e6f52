-- A walk along a chain: sums, greatest values and searches stay as they are between two of its indices.
use Prim.Native.Nat.{ℕ, zero, suc, ◌+◌, ◌≤◌, ◌<◌, max}
use mathlib.Core.Bool.{Bool, false, cond, ◌||◌, or-false}
use mathlib.Core.Path.{◌≡◌, refl, ◌∙◌}
use native.Mathlib.Omega.{arith}
use native.Mathlib.Decide.{ℕ_discrete}
use Rattle.rules.specs.Count.{sum_below, sum_where, max_below, max_where, any_below}
use Rattle.model.proofs.StepLaws.{sum-none, max_none, any-empty}
use Rattle.links.specs.Chains.{NextOf}

-- what no step from k to r changes
kept : {A : Type 0} (F : ℕ → A) (k r : ℕ) → k ≤ r → ((j : ℕ) → k ≤ j → j < r → F (suc j) ≡ F j) → F r ≡ F k
kept F k zero l h = let e : k ≡ 0 = omega arith in rw e
kept F k (suc r) l h = elim (ℕ_discrete k (suc r)) [
  | yes e ↦ rw e
  | no d ↦ h r (omega arith) (omega arith) ∙ kept F k r (omega arith) (λ j a b. h j a (omega arith))
]

-- one index more
module _ (q : ℕ → Bool) (j : ℕ) where
  sum_more : (f : ℕ → ℕ) → sum_where (suc j) q f ≡ sum_where j q f + cond (q j) (f j) 0
  unfolding sum_below
  sum_more f = refl

  max-more : (f : ℕ → ℕ) → max_where (suc j) q f ≡ max (max_where j q f) (cond (q j) (f j) 0)
  unfolding max_below
  max-more f = refl

  any-more : any_below (suc j) q ≡ any_below j q || q j
  unfolding any_below
  any-more = refl

  -- and the test does not hold of it
  module _ (e : q j ≡ false) where
    sum_same : (f : ℕ → ℕ) → sum_where (suc j) q f ≡ sum_where j q f
    sum_same f = rw e at (sum_more f) ∙ omega arith

    max-same : (f : ℕ → ℕ) → max_where (suc j) q f ≡ max_where j q f
    max-same f = rw e at (max-more f) ∙ omega arith

    any_same : any_below (suc j) q ≡ any_below j q
    any_same = rw e at any-more ∙ or-false (any_below j q)

-- ---- of any test that holds only where p does

-- from k to the next index of which p holds
module _ {n : ℕ} {p : ℕ → Bool} {k r : ℕ} (next : NextOf n p k r) (q : ℕ → Bool) (only : (j : ℕ) → p j ≡ false → q j ≡ false) where
  passed : (j : ℕ) → k ≤ j → j < r → q j ≡ false
  passed j a b = only j (next.passed j a b)

  pub sum-skip : (f : ℕ → ℕ) → sum_where r q f ≡ sum_where k q f
  sum-skip f = kept (λ m. sum_where m q f) k r next.from (λ j a b. sum_same q j (passed j a b) f)

  pub max-skip : (f : ℕ → ℕ) → max_where r q f ≡ max_where k q f
  max-skip f = kept (λ m. max_where m q f) k r next.from (λ j a b. max-same q j (passed j a b) f)

  pub any-skip : any_below r q ≡ any_below k q
  any-skip = kept (λ m. any_below m q) k r next.from (λ j a b. any_same q j (passed j a b))

-- up to the first one
module _ {n : ℕ} {p : ℕ → Bool} {r : ℕ} (first : NextOf n p 0 r) (q : ℕ → Bool) (only : (j : ℕ) → p j ≡ false → q j ≡ false) where
  pub sum_first : (f : ℕ → ℕ) → sum_where r q f ≡ 0
  sum_first f = sum-skip first q only f ∙ sum-none _

  pub max-first : (f : ℕ → ℕ) → max_where r q f ≡ 0
  max-first f = max-skip first q only f ∙ max_none _

  pub any-first : any_below r q ≡ false
  any-first = any-skip first q only ∙ any-empty q

-- past k, up to the next one behind it
module _ {n : ℕ} {p : ℕ → Bool} {k r : ℕ} (next : NextOf n p (suc k) r) (q : ℕ → Bool) (only : (j : ℕ) → p j ≡ false → q j ≡ false) where
  pub sum-behind : (f : ℕ → ℕ) → sum_where r q f ≡ sum_where k q f + cond (q k) (f k) 0
  sum-behind f = sum-skip next q only f ∙ sum_more q k f

  pub max-behind : (f : ℕ → ℕ) → max_where r q f ≡ max (max_where k q f) (cond (q k) (f k) 0)
  max-behind f = max-skip next q only f ∙ max-more q k f

  pub any-behind : any_below r q ≡ any_below k q || q k
  any-behind = any-skip next q only ∙ any-more q k
