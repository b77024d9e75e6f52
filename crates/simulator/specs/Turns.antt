-- The soonest tick of which something holds.
use Rattle.std.specs.Prelude.{ℕ, ◌≤◌, Bool, true, ◌≡◌, Option, MatchOption}
use Rattle.model.specs.Layout.{last_tick}

-- r is the least tick from `from` on of which p holds
pub record SoonestAt (p : ℕ → Bool) (from r : ℕ) : Type 0 where
  pub within : r ≤ last_tick
  pub after : from ≤ r
  pub holds : p r ≡ true
  pub least : (u : ℕ) → from ≤ u → p u ≡ true → r ≤ u

-- that tick, if there is one; p holds of no tick that is later than the last
pub record Soonest (p : ℕ → Bool) (from : ℕ) (o : Option ℕ) : Type 0 where
  pub within : (u : ℕ) → p u ≡ true → u ≤ last_tick
  pub soonest : MatchOption o ((u : ℕ) → from ≤ u → p u ≡ true → ⊥) (SoonestAt p from)
