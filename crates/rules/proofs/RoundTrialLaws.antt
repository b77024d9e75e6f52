-- The trials of a round, task by task: trial_law.
use Prim.Native.Nat.{ℕ, zero, suc, ◌+◌}
use mathlib.Core.Bool.{true, false, cond, ◌&&◌}
use mathlib.Core.List.{List, [], ◌∷◌, Memᴰ}
use mathlib.Core.Option.{Option, none, some}
use mathlib.Core.Path.{◌≡◌, refl, sym, ap, subst, ◌∙◌}
use native.Mathlib.Omega.{arith}
use lib.Dec.{leb, ltb, eqb}
use borrow.Author.Tests.{leb-true, ltb-true, eqb-true, le-leb, lt-ltb, eq-eqb}
use Rattle.rules.specs.Count.{sum_below, sum_over}
use Rattle.rules.specs.Model.{blue, red, Colour, Instance, task_count}
use Rattle.rules.specs.Scheduling.{Memory, Planner, heft, min_min, Partial, ready, earliest_start, finish_on, weight, Choice, nothing, choose, earlier, Round}
use Rattle.rules.specs.Scheduling.{tried, both_colours, by_weight, or_rest, first_that_fits, earliest_below, round_of}
use Rattle.rules.specs.RoundTrials.{tried_by, TrialLaw}
use Rattle.rules.proofs.Tests.{split, by_order, is_false, and-true, and_no, or_yes}
use Rattle.rules.proofs.WeightLaws.{Ahead, Sorted, Once, by_weight-sorted, by_weight-once, by_weight-sum}

-- ---- what is chosen of one task is that task

earlier-task : (I : Instance) (i : ℕ) (a b : Option ℕ) (j : ℕ) (c : Colour) (s : ℕ) → earlier I (tried i blue a) (tried i red b) ≡ choose j c s → j ≡ i
earlier-task I i none none j c s e = let z : ◌≡◌ {A = ℕ} 0 1 = cc in absurd (omega arith)
earlier-task I i none (some t) j c s e = cc
earlier-task I i (some t) none j c s e = cc
earlier-task I i (some t) (some u) j c s e = split (leb (finish_on I i blue t) (finish_on I i red u))
    (λ q. let f : choose i blue t ≡ choose j c s = rw q at e in cc)
    (λ q. let f : choose i red u ≡ choose j c s = rw q at e in cc)

both-task : (m : Memory) (I : Instance) (Q : Partial) (i j : ℕ) (c : Colour) (s : ℕ) → both_colours m I Q i ≡ choose j c s → j ≡ i
unfolding both_colours
both-task m I Q i j c s e = earlier-task I i (earliest_start m I Q i blue) (earliest_start m I Q i red) j c s e

-- ---- how far down its list HEFT goes

-- a choice is of a task of the list
abbrev Within : List ℕ → Choice → Type 0
Within is nothing = Unit {0}
Within is (choose k c s) = Memᴰ k is

rest-within : (i : ℕ) (is : List ℕ) (x : Choice) → Within is x → Within (i ∷ is) x
rest-within i is nothing h = tt
rest-within i is (choose k c s) h = Memᴰ.tail h

module _ (m : Memory) (I : Instance) where
  -- a task ahead of the choice is tried, the choice too, and nothing behind it
  down_to : (i k : ℕ) (c : Colour) (s : ℕ) → Ahead I i k → tried_by (heft m) I (choose k c s) i ≡ true
  down_to i k c s a =
      by_order (weight I k) (weight I i)
      (λ l. rw (lt-ltb _ _ l))
      (λ l.
      let e : weight I k ≡ weight I i = omega (arith, a.0) in
      rw (eq-eqb (weight I k) (weight I i) e, le-leb i k (a.1 e)) (or_yes (ltb (weight I k) (weight I i))))

  ahead-tried : (i : ℕ) (is : List ℕ) (x : Choice) → ((j : ℕ) → Memᴰ j is → Ahead I i j) → Within is x → tried_by (heft m) I x i ≡ true
  ahead-tried i is nothing s h = refl
  ahead-tried i is (choose k c t) s h = down_to i k c t (s k h)

  not_behind : (i k : ℕ) (c : Colour) (s : ℕ) → Ahead I i k → (k ≡ i → ⊥) → tried_by (heft m) I (choose i c s) k ≡ false
  not_behind i k c s a d = is_false (tried_by (heft m) I (choose i c s) k) (λ e. split (ltb (weight I i) (weight I k))
      (λ l. omega (arith, a.0, ltb-true (weight I i) (weight I k) l))
      (λ l.
      let f : eqb (weight I i) (weight I k) && leb k i ≡ true = rw l at e in
      let (p, q) = and-true (eqb (weight I i) (weight I k)) (leb k i) f in
      let w = eqb-true (weight I i) (weight I k) p in
      d (omega (arith, leb-true k i q, a.1 (sym w)))))

over_zero : (is : List ℕ) (f : ℕ → ℕ) → ((k : ℕ) → Memᴰ k is → f k ≡ 0) → sum_over f is ≡ 0
unfolding sum_over
over_zero [] f h = refl
over_zero (i ∷ is) f h = omega (arith, h i (Memᴰ.head refl), over_zero is f (λ k m. h k (Memᴰ.tail m)))

module _ (m : Memory) (I : Instance) (Q : Partial) where
  -- two trials of a task that is tried
  abbrev counted : Planner → Choice → ℕ → ℕ
  counted R x j = cond (ready I Q.schedule j && tried_by R I x j) 2 0

  first-tries : (i : ℕ) (is : List ℕ) → ready I Q.schedule i ≡ true → first_that_fits m I Q (i ∷ is) ≡ or_rest (both_colours m I Q i) (first_that_fits m I Q is)
  unfolding first_that_fits
  first-tries i is r = rw r

  first-skips : (i : ℕ) (is : List ℕ) → ready I Q.schedule i ≡ false → first_that_fits m I Q (i ∷ is) ≡ first_that_fits m I Q is
  unfolding first_that_fits
  first-skips i is r = rw r

  first-none : first_that_fits m I Q [] ≡ record { choice = nothing; trials = 0 }
  unfolding first_that_fits
  first-none = refl

  first-within : (is : List ℕ) → Within is (first_that_fits m I Q is).choice
  first-within [] = rw first-none tt
  first-within (i ∷ is) = split (ready I Q.schedule i)
      (λ r. rw (first-tries i is r) (on (both_colours m I Q i) refl (first-within is)))
      (λ r. rw (first-skips i is r) (rest-within i is (first_that_fits m I Q is).choice (first-within is)))
    where
      on : (x : Choice) → both_colours m I Q i ≡ x → Within is (first_that_fits m I Q is).choice
          → Within (i ∷ is) (or_rest x (first_that_fits m I Q is)).choice
      on nothing e h = rest-within i is (first_that_fits m I Q is).choice h
      on (choose j c s) e h = Memᴰ.head (both-task m I Q i j c s e)

  counts-none : (x : Choice) (k : ℕ) → tried_by (heft m) I x k ≡ false → counted (heft m) x k ≡ 0
  counts-none x k e = rw (e, and_no (ready I Q.schedule k))

  abbrev Told : List ℕ → Round → Type 0
  Told is x = x.trials ≡ sum_over (counted (heft m) x.choice) is

  first_counted : (is : List ℕ) → Sorted I is → Once is → (first_that_fits m I Q is).trials ≡ sum_over (counted (heft m) (first_that_fits m I Q is).choice) is
  unfolding sum_over
  first_counted [] s o = rw first-none
  first_counted (i ∷ is) s o = split (ready I Q.schedule i)
      (λ r. subst (Told (i ∷ is)) (sym (first-tries i is r)) (on r (both_colours m I Q i) refl (first_counted is s.1 o.1)))
      (λ r. subst (Told (i ∷ is)) (sym (first-skips i is r)) (rw r (omega (arith, first_counted is s.1 o.1))))
    where
      on : ready I Q.schedule i ≡ true → (x : Choice) → both_colours m I Q i ≡ x
          → (first_that_fits m I Q is).trials ≡ sum_over (counted (heft m) (first_that_fits m I Q is).choice) is
          → (or_rest x (first_that_fits m I Q is)).trials ≡ sum_over (counted (heft m) (or_rest x (first_that_fits m I Q is)).choice) (i ∷ is)
      on r nothing e h = rw (r, ahead-tried m I i is (first_that_fits m I Q is).choice s.0 (first-within is)) (ap (λ n. 2 + n) h)
      on r (choose j c t) e h =
          let q = both-task m I Q i j c t e in
          let own : tried_by (heft m) I (choose j c t) i ≡ true = down_to m I i j c t (rw q (omega arith)) in
          let behind : (k : ℕ) → Memᴰ k is → counted (heft m) (choose j c t) k ≡ 0 = λ k h.
          counts-none (choose j c t) k (not_behind m I j k c t (rw q (s.0 k h)) (λ p. o.0 (rw (p, q) at h))) in
          rw (r, own, over_zero is (counted (heft m) (choose j c t)) behind)

  earliest-counted : (n : ℕ) (x : Choice) → (earliest_below m I Q n).trials ≡ sum_below n (counted (min_min m) x)
  unfolding earliest_below sum_below
  earliest-counted zero x = refl
  earliest-counted (suc n) x = split (ready I Q.schedule n)
      (λ r. rw r (ap (λ k. k + 2) (earliest-counted n x)))
      (λ r. rw r (omega (arith, earliest-counted n x)))

pub trial_law : TrialLaw
unfolding round_of
trial_law (heft m) I Q =
    first_counted m I Q (by_weight I (task_count I)) (by_weight-sorted I (task_count I)) (by_weight-once I (task_count I))
    ∙ by_weight-sum I (counted m I Q (heft m) (round_of (heft m) I Q).choice) (task_count I)
trial_law (min_min m) I Q = earliest-counted m I Q (task_count I) (round_of (min_min m) I Q).choice
