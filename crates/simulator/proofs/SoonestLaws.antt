-- The laws of `Soonest`: of either of two tests, of a test that never holds, of tests that say the same.
use Rattle.std.proofs.Common.{ℕ, ◌+◌, ◌≤◌, ◌≡◌, ◌∙◌, sym, min, Bool, true, false, ◌||◌, Option, Some, None, add-one, arith}
use native.Mathlib.Decide.{dec_le}
use Rattle.rules.specs.Count.{any_below}
use Rattle.rules.proofs.Tests.{clash, or_right, by-or}
use Rattle.model.specs.Layout.{last_tick}
use Rattle.model.specs.Ticks.{sooner}
use Rattle.model.proofs.StepLaws.{any-empty}
use Rattle.simulator.specs.Turns.{SoonestAt, Soonest}

-- a test that never holds
pub soonest-none : (p : ℕ → Bool) → ((u : ℕ) → p u ≡ false) → (from : ℕ) → Soonest p from None
soonest-none p none from = record { within = λ u e. clash e (none u); soonest = λ u h e. clash e (none u) }

-- a test that says the same
at-same : {p q : ℕ → Bool} → ((u : ℕ) → p u ≡ q u) → (from r : ℕ) → SoonestAt p from r → SoonestAt q from r
at-same same from r s = record { within = s.within; after = s.after; holds = sym (same r) ∙ s.holds; least = λ u h e. s.least u h (same u ∙ e) }

pub soonest-same : {p q : ℕ → Bool} → ((u : ℕ) → p u ≡ q u) → (from : ℕ) (o : Option ℕ) → Soonest p from o → Soonest q from o
soonest-same same from None s = record { within = λ u e. s.within u (same u ∙ e); soonest = λ u h e. s.soonest u h (same u ∙ e) }
soonest-same same from (Some r) s = record { within = λ u e. s.within u (same u ∙ e); soonest = at-same same from r s.soonest }

-- either of two tests
module _ (p q : ℕ → Bool) (from : ℕ) where
  abbrev both : ℕ → Bool
  both u = p u || q u

  either-at : (a b : ℕ) → SoonestAt p from a → SoonestAt q from b → SoonestAt both from (min a b)
  either-at a b x y =
      let least : (u : ℕ) → from ≤ u → p u || q u ≡ true → min a b ≤ u =
      λ u l h. by-or (p u) (q u) h (λ g. omega (arith, x.least u l g)) (λ g. omega (arith, y.least u l g)) in
      elim (dec_le a b) [
        | yes l ↦
            let z : min a b ≡ a = omega arith in
            record { within = rw z x.within; after = rw z x.after; holds = rw (z, x.holds); least = least }
        | no l ↦
            let z : min a b ≡ b = omega arith in
            record { within = rw z y.within; after = rw z y.after; holds = rw z (or_right (p b) (q b) y.holds); least = least }
      ]

  one_at : (a : ℕ) → SoonestAt p from a → ((u : ℕ) → from ≤ u → q u ≡ true → ⊥) → SoonestAt both from a
  one_at a x y = record {
    within = x.within;
    after = x.after;
    holds = rw x.holds;
    least = λ u l h. by-or (p u) (q u) h (x.least u l) (λ g. absurd (y u l g));
  }

  other_at : (b : ℕ) → ((u : ℕ) → from ≤ u → p u ≡ true → ⊥) → SoonestAt q from b → SoonestAt both from b
  other_at b x y = record {
    within = y.within;
    after = y.after;
    holds = or_right (p b) (q b) y.holds;
    least = λ u l h. by-or (p u) (q u) h (λ g. absurd (x u l g)) (y.least u l);
  }

  either-within : {a b : Option ℕ} → Soonest p from a → Soonest q from b → (u : ℕ) → both u ≡ true → u ≤ last_tick
  either-within x y u h = by-or (p u) (q u) h (x.within u) (y.within u)

  pub soonest-or : (a b : Option ℕ) → Soonest p from a → Soonest q from b → Soonest (λ u. p u || q u) from (sooner a b)
  soonest-or (Some a) (Some b) x y = record { within = either-within x y; soonest = either-at a b x.soonest y.soonest }
  soonest-or (Some a) None x y = record { within = either-within x y; soonest = one_at a x.soonest y.soonest }
  soonest-or None (Some b) x y = record { within = either-within x y; soonest = other_at b x.soonest y.soonest }
  soonest-or None None x y = record { within = either-within x y; soonest = λ u l h. by-or (p u) (q u) h (x.soonest u l) (y.soonest u l) }

-- ---- over the indices below a bound

any-more : (p : ℕ → Bool) (n : ℕ) → any_below n p || p n ≡ any_below (n + 1) p
unfolding any_below
any-more p n = rw (add-one n)

module _ (p : ℕ → ℕ → Bool) (from : ℕ) where
  pub soonest-begins : Soonest (λ u. any_below 0 (p u)) from None
  soonest-begins = soonest-none _ (λ u. any-empty (p u)) from

  pub soonest-next : (n : ℕ) (a b : Option ℕ) → Soonest (λ u. any_below n (p u)) from a → Soonest (λ u. p u n) from b
      → Soonest (λ u. any_below (n + 1) (p u)) from (sooner a b)
  soonest-next n a b x y = soonest-same (λ u. any-more (p u) n) from (sooner a b) (soonest-or (λ u. any_below n (p u)) (λ u. p u n) from a b x y)

  pub soonest-turn : (n : ℕ) (a b r : Option ℕ) → Soonest (λ u. any_below n (p u)) from a → Soonest (λ u. p u n) from r → b ≡ sooner a r
      → Soonest (λ u. any_below (n + 1) (p u)) from b
  soonest-turn n a b r x y e = rw e (soonest-next n a r x y)
