-- Several changes of a staircase, one after the other.
use Prim.Native.Nat.{ℕ, suc, ◌+◌, ◌≤◌, ◌<◌}
use mathlib.Core.Bool.{Bool, true, false, cond}
use mathlib.Core.List.{List, [], ◌∷◌, ◌++◌}
use mathlib.Core.Path.{◌≡◌, refl, sym, ◌∙◌, ap}
use native.Mathlib.Omega.{arith}
use lib.Dec.{leb}
use lib.ListN.{length, length-append}
use Rattle.rules.specs.Count.{sum_over}
use Rattle.rules.specs.Limits.{max_pairs}
use Rattle.rules.specs.Changes.{Change}
use Rattle.rules.specs.Staircase.{Step, step_at, Staircase, steps_after, steps_after_all}
use Rattle.rules.proofs.Tests.{by_order}
use Rattle.rules.proofs.ChangeLaws.{sum-append, fallen}
use Rattle.rules.proofs.StaircaseLaws.{free_after_all, all_after, rise-room, stairs-after}
use Rattle.staircase.specs.Steps.{max_free, Fits}
use Rattle.staircase.specs.Stairs.{risen, Pending, Made}

-- ---- the next change

module _ {xs : List Change} {ss : List Step} (Q : Pending xs ss) where
  abbrev S : Staircase Q.free ss
  S = Q.staircase

  level-at : (t k : ℕ) → k < length ss → (step_at ss k).tick ≤ t → (suc k < length ss → t < (step_at ss (suc k)).tick) → (step_at ss k).free ≡ Q.free t
  level-at t k l b a = S.level t k (record { exists = l; begun = b; goes_on = a })

  -- what is free stays in range, and a rise takes no more than is free from its tick on
  fits : (x : Change) → ((t : ℕ) → Q.free t + x.amount ≤ max_free) → (x.rises ≡ true → (t : ℕ) → x.tick ≤ t → x.amount ≤ Q.free t) → Fits ss x
  fits x most room = record {
    most = λ k l. omega (arith, most (step_at ss k).tick, level-at (step_at ss k).tick k l (omega arith) (S.ascending k));
    enough = λ e k l a. by_order x.tick (step_at ss k).tick
        (λ b. omega (arith, room e (step_at ss k).tick (omega arith), level-at (step_at ss k).tick k l (omega arith) (S.ascending k)))
        (λ b. omega (arith, room e x.tick (omega arith), level-at x.tick k l b a));
  }

-- what `change` requires
pub pending-requires : {x : Change} {xs : List Change} {ss : List Step} → Pending (x ∷ xs) ss → (length ss < max_pairs) × Fits ss x
unfolding sum_over
pending-requires {x} {xs} Q = (omega (arith, Q.slots), fits Q x (λ t. omega (arith, Q.most t)) (rise-room x xs Q.free Q.room))

-- ---- changes made

pub made_none : (ss : List Step) → Made [] ss ss
unfolding steps_after_all
made_none ss = record { steps = refl; count = omega arith }

-- what `change` ensures
pub made_one : (x : Change) (ss : List Step) {ss' : List Step} → ss' ≡ steps_after x ss → length ss' ≤ length ss + 1 → Made (x ∷ []) ss ss'
unfolding steps_after_all
made_one x ss e l = record { steps = e; count = omega (arith, l) }

after-append : (xs ys : List Change) (ss : List Step) → steps_after_all (xs ++ ys) ss ≡ steps_after_all ys (steps_after_all xs ss)
unfolding steps_after_all
after-append [] ys ss = refl
after-append (x ∷ xs) ys ss = after-append xs ys (steps_after x ss)

pub made_then : {xs ys : List Change} {ss ss' ss'' : List Step} → Made xs ss ss' → Made ys ss' ss'' → Made (xs ++ ys) ss ss''
made_then {xs} {ys} {ss} a b = record {
  steps = b.steps ∙ ap (steps_after_all ys) a.steps ∙ sym (after-append xs ys ss);
  count = omega (arith, a.count, b.count, length-append xs ys);
}

-- ---- and those still to be made

fallen-most : (c b : Bool) (z : ℕ) → cond c (cond b 0 z) 0 ≤ z
fallen-most true true z = omega arith
fallen-most true false z = omega arith
fallen-most false b z = omega arith

fallen-under : (t : ℕ) (xs : List Change) → sum_over (fallen t) xs ≤ sum_over (λ x. x.amount) xs
unfolding sum_over
fallen-under t [] = omega arith
fallen-under t (x ∷ xs) = omega (arith, fallen-under t xs, fallen-most (leb x.tick t) x.rises x.amount)

module _ (xs ys : List Change) {ss : List Step} (Q : Pending (xs ++ ys) ss) where
  room-both : (t : ℕ) → sum_over (risen t) xs + sum_over (risen t) ys ≤ Q.free t
  room-both t = omega (arith, Q.room t, sum-append (risen t) xs ys)

  most-both : (t : ℕ) → Q.free t + (sum_over (λ x. x.amount) xs + sum_over (λ x. x.amount) ys) ≤ max_free
  most-both t = omega (arith, Q.most t, sum-append (λ x. x.amount) xs ys)

  pub pending-front : Pending xs ss
  pending-front = record {
    free = Q.free;
    staircase = Q.staircase;
    slots = omega (arith, Q.slots, length-append xs ys);
    room = λ t. omega (arith, room-both t);
    most = λ t. omega (arith, most-both t);
  }

  pub pending-after : {ss' : List Step} → Made xs ss ss' → Pending ys ss'
  pending-after m =
      let front : (t : ℕ) → sum_over (risen t) xs ≤ Q.free t = λ t. omega (arith, room-both t) in
      record {
        free = free_after_all xs Q.free;
        staircase = rw m.steps (stairs-after xs Q.free ss Q.staircase front);
        slots = omega (arith, Q.slots, m.count, length-append xs ys);
        room = λ t. omega (arith, all_after xs Q.free front t, room-both t);
        most = λ t. omega (arith, all_after xs Q.free front t, most-both t, fallen-under t xs);
      }
