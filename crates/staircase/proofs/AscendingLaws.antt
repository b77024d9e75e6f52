-- A change keeps the steps ascending.
use Prim.Native.Nat.{ℕ, zero, suc, ◌≤◌, ◌<◌}
use mathlib.Core.List.{List, [], ◌∷◌}
use native.Mathlib.Omega.{arith}
use lib.Dec.{ltb, eqb}
use lib.ListN.{length}
use borrow.Author.Tests.{ltb-true, ltb-false, eqb-false}
use Rattle.rules.proofs.Tests.{split, by_order}
use Rattle.rules.specs.Changes.{Change}
use Rattle.rules.specs.Staircase.{Step as Pair, step_at, free_by, steps_shifted, step_if_new, steps_behind, steps_after}
use Rattle.staircase.specs.Steps.{Ascending}

-- later than tick a, and ascending
abbrev Rising : ℕ → List Pair → Type 0
Rising a [] = Unit {0}
Rising a (s ∷ ss) = (a < s.tick) × Rising s.tick ss

rising-earlier : (a b : ℕ) (ss : List Pair) → a ≤ b → Rising b ss → Rising a ss
rising-earlier a b [] l r = tt
rising-earlier a b (s ∷ ss) l r = (omega (arith, r.0), r.1)

module _ (x : Change) where
  rising-shifted : (a : ℕ) (ss : List Pair) → Rising a ss → Rising a (steps_shifted x ss)
  unfolding steps_shifted
  rising-shifted a [] r = tt
  rising-shifted a (s ∷ ss) r = (r.0, rising-shifted s.tick ss r.1)

  rising-if : (a v : ℕ) (s : Pair) (ss : List Pair) → a < s.tick → Rising s.tick ss → Rising a (step_if_new v s ss)
  rising-if a v s ss l r = split (eqb v s.free) (λ e. rw e (rising-earlier a s.tick ss (omega arith) r)) (λ e. rw e (l, r))

  rising-behind : (a v : ℕ) (ss : List Pair) → a < x.tick → Rising a ss → Rising a (steps_behind x v ss)
  unfolding steps_behind
  rising-behind a v [] l r = rising-if a v (record { tick = x.tick; free = free_by x v }) [] l tt
  rising-behind a v (s ∷ ss) l r = split (ltb s.tick x.tick)
      (λ e. rw e (r.0, rising-behind s.tick s.free ss (ltb-true _ _ e) r.1))
      (λ e. split (eqb s.tick x.tick)
      (λ d. rw (e, d) (rising-if a v (record { tick = s.tick; free = free_by x s.free }) (steps_shifted x ss) r.0 (rising-shifted s.tick ss r.1)))
      (λ d.
      let later : x.tick < s.tick = by_order x.tick s.tick (λ h. h) (λ h. absurd (eqb-false _ _ d (omega (arith, ltb-false _ _ e)))) in
      rw (e, d) (rising-if a v (record { tick = x.tick; free = free_by x v }) (steps_shifted x (s ∷ ss)) l (rising-shifted x.tick (s ∷ ss) (later, r.1)))))

-- ---- the two forms

rising-up : (s : Pair) (ss : List Pair) → Rising s.tick ss → (k : ℕ) → suc k < length (s ∷ ss) → (step_at (s ∷ ss) k).tick < (step_at (s ∷ ss) (suc k)).tick
rising-up s [] r k l = absurd (omega arith)
rising-up s (t ∷ ss) r zero l = r.0
rising-up s (t ∷ ss) r (suc k) l = rising-up t ss r.1 k (omega arith)

up-rising : (s : Pair) (ss : List Pair) → ((k : ℕ) → suc k < length (s ∷ ss) → (step_at (s ∷ ss) k).tick < (step_at (s ∷ ss) (suc k)).tick) → Rising s.tick ss
up-rising s [] up = tt
up-rising s (t ∷ ss) up = (up 0 (omega arith), up-rising t ss (λ k l. up (suc k) (omega arith)))

pub ascending-after : (x : Change) (ss : List Pair) → Ascending ss → Ascending (steps_after x ss)
unfolding steps_after steps_shifted
ascending-after x [] a = absurd (omega (arith, a.one))
ascending-after x (s ∷ ss) a =
    let r = up-rising s ss a.up in
    split (eqb x.tick 0)
    (λ e. rw e (record { one = omega arith; first = a.first; up = rising-up (record { tick = s.tick; free = free_by x s.free }) (steps_shifted x ss) (rising-shifted x s.tick ss r) }))
    (λ e.
    let later : s.tick < x.tick = by_order 0 x.tick (λ h. omega (arith, a.first)) (λ h. absurd (eqb-false x.tick 0 e (omega arith))) in
    rw e (record { one = omega arith; first = a.first; up = rising-up s (steps_behind x s.free ss) (rising-behind x s.tick s.free ss later r) }))
