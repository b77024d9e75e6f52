-- Order 9: stairs_start.
use Prim.Native.Nat.{ℕ, zero, suc}
use mathlib.Core.List.{List, [], ◌∷◌}
use mathlib.Core.Path.{◌≡◌, refl}
use native.Mathlib.Omega.{arith}
use Rattle.rules.specs.Model.{Colour, Instance, limit_of}
use Rattle.rules.specs.Scheduling.{empty}
use Rattle.rules.specs.Staircase.{Step, StandsOn, step_at, Staircase, free_at}
use Rattle.rules.specs.StairsPromises.{StairsStart}
use Rattle.rules.proofs.SoundLaws.{nothing-held}
use Rattle.rules.proofs.StaircaseLaws.{staircase_unique}
use Rattle.rules.proofs.StairsLaws.{stairs_law}

module _ (I : Instance) (c : Colour) where
  abbrev one : List Step
  one = record { tick = 0; free = limit_of I c } ∷ []

  all-free : (t : ℕ) → limit_of I c ≡ free_at I (empty I).schedule c t
  unfolding free_at
  all-free t = omega (arith, nothing-held I c t)

  on_one : (t k : ℕ) → StandsOn one t k → (step_at one k).free ≡ free_at I (empty I).schedule c t
  on_one t zero s = all-free t
  on_one t (suc k) s = absurd (omega (arith, s.exists))

  one-stair : Staircase (free_at I (empty I).schedule c) one
  one-stair = record {
    one = omega arith;
    first = refl;
    ascending = λ k l. absurd (omega arith);
    differ = λ k l. absurd (omega arith);
    level = on_one;
  }

pub stairs_start : StairsStart
stairs_start I W c = staircase_unique (free_at I (empty I).schedule c) _ _ (stairs_law I W (empty I).schedule c).0 (one-stair I c)
