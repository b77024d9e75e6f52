-- The first instant over a limit and the peaks of both memories, from the totals of each.
use Prim.Native.Nat.{ℕ}
use mathlib.Core.Option.{Option, none, some}
use mathlib.Core.Path.{◌≡◌, refl}
use Rattle.rules.specs.Model.{blue, red, Instance, limit_of, Schedule}
use Rattle.rules.specs.Changes.{sooner}
use Rattle.std.specs.Prelude.{Option as Over, Some, None}
use Rattle.model.specs.Ticks.{sooner as code-sooner}
use Rattle.changes.specs.Totals.{over_of, TotalsOf}
use Rattle.validator.specs.Memories.{ByChanges}

pub over-at : {a : Over ℕ} {t : ℕ} → a ≡ Some t → over_of a ≡ some t
over-at e = rw e

pub over-never : {a : Over ℕ} → a ≡ None → over_of a ≡ none
over-never e = rw e

-- the sooner of two, as the rules have it
pub sooner-is : (a b : Over ℕ) → over_of (code-sooner a b) ≡ sooner (over_of a) (over_of b)
sooner-is (Some s) (Some t) = refl
sooner-is (Some s) None = refl
sooner-is None b = refl

-- what the totals of both come to
pub by-changes : (I : Instance) (P : Schedule) {l m g h : ℕ} {o q r : Option ℕ} → TotalsOf I P blue l g o → TotalsOf I P red m h q
    → limit_of I blue ≡ l → limit_of I red ≡ m → r ≡ sooner o q → ByChanges I P r g h
by-changes I P x y u v e = record {
  blues = x.taken;
  reds = y.taken;
  blue_in_time = x.in_time;
  red_in_time = y.in_time;
  is_first = rw (u, v, ← x.first, ← y.first) e;
  is_blue_peak = x.most;
  is_red_peak = y.most;
}
