-- Reading the steps from the end, and the least of their amounts.
use Prim.Native.Nat.{ℕ, zero, suc, ◌+◌, ◌≤◌, ◌<◌, min}
use mathlib.Core.Bool.{Bool, true, false}
use mathlib.Core.List.{List, [], ◌∷◌, map}
use mathlib.Core.Path.{◌≡◌, refl, sym, ◌∙◌, ap}
use mathlib.Core.Option as Rules
use native.Mathlib.Omega.{arith}
use lib.Dec.{leb, ltb}
use lib.ListN.{length, get_or, take}
use borrow.Author.Tests.{le-leb, lt-leb, leb-true, lt-ltb, le-ltb}
use Rattle.std.specs.Prelude.{Option, None, Some, IfSome}
use Rattle.std.specs.Prelude.{option_map}
use Rattle.std.specs.Option.{unwrap_or, option_or}
use Rattle.std.specs.Bool.{then_some}
use Rattle.std.specs.List.{fold, reduce}
use Rattle.std.proofs.lemmas.Iterator.Adapters.{option_map_id}
use Rattle.std.proofs.lemmas.List.{length-map, get_or-take, length-take-le}
use Rattle.rules.specs.Count.{settled_from, min_up_to}
use Rattle.rules.specs.Staircase.{Step as Pair, step_at, suffices, free_from_steps, least_free}
use Rattle.rules.proofs.Tests.{by_order, clash}
use Rattle.rules.proofs.CountLaws.{settled-bound, settled-holds, settled-least, settled-again}
use Rattle.staircase.specs.declared.Step.{Step}
use Rattle.staircase.specs.Steps.{as_step, as_steps, no_step, as_option, Position}

-- ---- the steps by index

pub step-is : (xs : List Step) (k : ℕ) → step_at (as_steps xs) k ≡ as_step (get_or xs k no_step)
step-is [] k = λ i. record { tick = 0; free = 0 }
step-is (x ∷ xs) zero = λ i. as_step x
step-is (x ∷ xs) (suc k) = step-is xs k

pub tick-is : (xs : List Step) (k : ℕ) → (step_at (as_steps xs) k).tick ≡ (get_or xs k no_step).tick
tick-is xs k = ap (λ s. s.tick) (step-is xs k)

pub free-is : (xs : List Step) (k : ℕ) → (step_at (as_steps xs) k).free ≡ (get_or xs k no_step).free
free-is xs k = ap (λ s. s.free) (step-is xs k)

-- ---- from when on there is enough

-- the one index from which on the test holds, and not at the one before it
settled_at : (n : ℕ) (p : ℕ → Bool) (r : ℕ) → r ≤ n → ((k : ℕ) → suc k ≡ r → p k ≡ false) → ((k : ℕ) → r ≤ k → k < n → p k ≡ true) → r ≡ settled_from n p
settled_at n p zero l before after = omega (arith, settled-least n p zero after)
settled_at n p (suc j) l before after = by_order (settled_from n p) (suc j)
    (λ h. clash (settled-holds n p j (omega arith) (omega arith)) (before j refl))
    (λ h. omega (arith, settled-least n p (suc j) after))

pub settled_read : (xs : List Step) (need r : ℕ) → r ≤ length xs → ((k : ℕ) → suc k ≡ r → (get_or xs k no_step).free < need)
    → ((k : ℕ) → r ≤ k → k < length xs → need ≤ (get_or xs k no_step).free) → r ≡ settled_from (length xs) (suffices (as_steps xs) need)
settled_read xs need r l met unmet = settled_at (length xs) (suffices (as_steps xs) need) r l
    (λ k e. lt-leb need _ (omega (arith, met k e, free-is xs k)))
    (λ k h m. le-leb need _ (omega (arith, unmet k h m, free-is xs k)))

settled_same : (n : ℕ) (p q : ℕ → Bool) → ((k : ℕ) → k < n → p k ≡ q k) → settled_from n p ≡ settled_from n q
unfolding settled_from
settled_same zero p q h = refl
settled_same (suc n) p q h = rw (h n (omega arith), settled_same n p q (λ k l. h k (omega arith)))

-- the index that the code answers, where there is none the number of steps
pub first_or : (k n : ℕ) {r : Option ℕ} → k ≤ n → r ≡ then_some (ltb k n) k → unwrap_or r n ≡ k
first_or k n l e = by_order k n
    (λ h. rw (e, lt-ltb k n h))
    (λ h. rw (e, le-ltb k n h) (omega arith))

-- the tick of that step is from when on there is enough
pub read_at : (xs : List Step) (need : ℕ) (o : Option ℕ) {r : Option ℕ} → unwrap_or o (length xs) ≡ settled_from (length xs) (suffices (as_steps xs) need)
    → IfSome o (λ k. k < length xs) → r ≡ option_map (λ k. (get_or xs k no_step).tick) o → as_option r ≡ free_from_steps (as_steps xs) need
unfolding free_from_steps
read_at xs need None e h f = rw (length-map xs as_step, ← e, f, le-ltb (length xs) (length xs) (omega arith))
read_at xs need (Some k) e h f = rw (length-map xs as_step, ← e, f, lt-ltb k (length xs) h) (ap Rules.some (sym (tick-is xs k)))

-- it is one of the steps' own
pub tick_within : (xs : List Step) (o : Option ℕ) {r : Option ℕ} → IfSome o (λ k. k < length xs) → r ≡ option_map (λ k. (get_or xs k no_step).tick) o
    → (b : ℕ) → ((j : ℕ) → j < length (as_steps xs) → (step_at (as_steps xs) j).tick ≤ b) → IfSome r (λ t. t ≤ b)
tick_within xs None l e b h = rw e tt
tick_within xs (Some k) l e b h = rw e (omega (arith, h k (omega (arith, length-map xs as_step)), tick-is xs k))

-- ---- of two needs, the smaller looked for in front of where the greater was found, at t

module _ (xs : List Step) (all part : ℕ) (l : part ≤ all) (t : Option ℕ) (e : unwrap_or t (length xs) ≡ settled_from (length xs) (suffices (as_steps xs) all))
    {k : ℕ} (d : k ≡ unwrap_or t (length xs)) where
  bound : k ≤ length xs
  bound = omega (arith, e, settled-bound (length xs) (suffices (as_steps xs) all))

  size : length (take k xs) ≡ k
  size = length-take-le k xs bound

  short : settled_from (length (take k xs)) (suffices (as_steps (take k xs)) part) ≡ settled_from k (suffices (as_steps xs) part)
  short = rw size (settled_same k (suffices (as_steps (take k xs)) part) (suffices (as_steps xs) part)
      (λ i m. ap (leb part) (free-is (take k xs) i ∙ ap (λ (s : Step). s.free) (get_or-take k xs i no_step m) ∙ sym (free-is xs i))))

  again : settled_from k (suffices (as_steps xs) part) ≡ settled_from (length xs) (suffices (as_steps xs) part)
  again = ap (λ m. settled_from m (suffices (as_steps xs) part)) (d ∙ e) ∙ sym (settled-again (length xs) (suffices (as_steps xs) all) (suffices (as_steps xs) part)
      (λ i m h. le-leb part _ (omega (arith, leb-true all _ h))))

  -- it is found there, at s, or else stands where the greater was found
  pub first_part : (s : Option ℕ) → unwrap_or s (length (take k xs)) ≡ settled_from (length (take k xs)) (suffices (as_steps (take k xs)) part)
      → unwrap_or (option_or s t) (length xs) ≡ settled_from (length xs) (suffices (as_steps xs) part)
  first_part None f = sym (size ∙ d) ∙ f ∙ short ∙ again
  first_part (Some j) f = f ∙ short ∙ again

  pub part_exists : (s : Option ℕ) → IfSome s (λ j. j < length (take k xs)) → IfSome t (λ j. j < length xs) → IfSome (option_or s t) (λ j. j < length xs)
  part_exists None h g = g
  part_exists (Some j) h g = omega (arith, size, bound)

-- ---- the position of a tick

-- the slice `now` shows the steps xs, of which ss is what a contract sees
pub positioned : (now : List Step) {xs : List Step} {ss : List Pair} (tick r : ℕ) → now ≡ xs → as_steps xs ≡ ss → r ≤ length now
    → ((k : ℕ) → suc k ≡ r → (get_or now k no_step).tick < tick) → ((k : ℕ) → r ≤ k → k < length now → tick ≤ (get_or now k no_step).tick) → Position ss tick r
positioned now tick r e f l met unmet = rw (← f, ← e) (record {
  within = omega (arith, length-map now as_step);
  before = λ k h. omega (arith, met k h, tick-is now k);
  after = λ k h m. omega (arith, unmet k h (omega (arith, length-map now as_step)), tick-is now k);
})

-- ---- the least amount

-- of the steps behind index k, from the least of those up to it
least-fold : (xs : List Step) (f : ℕ → ℕ) (k a : ℕ) → a ≡ min_up_to k f → ((i : ℕ) → (step_at (as_steps xs) i).free ≡ f (suc (k + i)))
    → fold min a (map (λ s. s.free) xs) ≡ min_up_to (k + length xs) f
unfolding min_up_to
least-fold [] f k a e h = let z : k + 0 ≡ k = omega arith in rw (z, e)
least-fold (x ∷ xs) f k a e h =
    let z : k + suc (length xs) ≡ suc k + length xs = omega arith in
    let here : x.free ≡ f (suc k) = h 0 ∙ ap f (omega arith) in
    rw z (least-fold xs f (suc k) (min a x.free) (rw (e, here)) (λ i. h (suc i) ∙ ap f (omega arith)))

least-of : (xs : List Step) → unwrap_or (reduce min (map (λ s. s.free) xs)) 0 ≡ least_free (as_steps xs)
unfolding least_free min_up_to
least-of [] = refl
least-of (x ∷ xs) =
    let z : 0 + length xs ≡ length xs = omega arith in
    rw (length-map xs as_step) (rw z at (least-fold xs (λ k. (step_at (as_steps (x ∷ xs)) k).free) 0 x.free refl (λ i. ap (λ k. (step_at (as_steps xs) k).free) (omega arith))))

-- what `map(free).min().unwrap_or(0)` gives of them
pub least-found : (xs : List Step) (o : Option ℕ) → option_map (λ x. x) o ≡ reduce min (map (λ s. s.free) xs) → unwrap_or o 0 ≡ least_free (as_steps xs)
least-found xs o e = ap (λ o. unwrap_or o 0) (sym (option_map_id o) ∙ e) ∙ least-of xs
