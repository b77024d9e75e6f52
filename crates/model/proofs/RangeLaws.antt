-- The greatest and the least of a function over a range of indices, as a chain of calls from the range on gives them.
use Prim.Native.Nat.{ℕ, zero, suc, ◌+◌, ◌<◌, max, min, pred}
use mathlib.Core.Bool.{Bool, cond}
use mathlib.Core.List.{List, [], ◌∷◌, map}
use mathlib.Core.Path.{◌≡◌, refl, sym, ap, ◌∙◌}
use native.Mathlib.Omega.{arith}
use Rattle.std.specs.Prelude.{Option, option_map}
use Rattle.std.specs.Option.{unwrap_or}
use Rattle.std.specs.List.{fold, reduce, range_with_len, filter}
use Rattle.std.proofs.lemmas.Iterator.Adapters.{option_map_id}
use Rattle.rules.specs.Count.{max_below, max_where, min_up_to}
use Rattle.rules.proofs.Tests.{split}
use Rattle.model.proofs.StepLaws.{max_none, max-next}

-- what `max` and `min` answer, by what they read of each item
answer : {o q : Option ℕ} → option_map (λ x. x) o ≡ q → o ≡ q
answer {o} e = sym (option_map_id o) ∙ e

greatest-or : (xs : List ℕ) → unwrap_or (reduce max xs) 0 ≡ fold max 0 xs
greatest-or [] = refl
greatest-or (x ∷ xs) = let e : max 0 x ≡ x = omega arith in rw e

module _ (f : ℕ → ℕ) where
  -- the indices from k on, behind the greatest of those before
  max-fold : (k n a : ℕ) → a ≡ max_below k f → fold max a (map f (range_with_len k n)) ≡ max_below (k + n) f
  max-fold k zero a h = let e : k + 0 ≡ k = omega arith in rw (e, h)
  max-fold k (suc n) a h =
      let e : k + suc n ≡ k + 1 + n = omega arith in
      rw e (max-fold (k + 1) n (max a (f k)) (omega (arith, h, max-next f k)))

  -- `(0..n).map(f).max().unwrap_or(0)`
  pub max-range : (n : ℕ) (o : Option ℕ) → option_map (λ x. x) o ≡ reduce max (map f (range_with_len 0 n)) → unwrap_or o 0 ≡ max_below n f
  max-range n o e =
      let z : 0 + n ≡ n = omega arith in
      ap (λ o. unwrap_or o 0) (answer e) ∙ greatest-or (map f (range_with_len 0 n)) ∙ rw z at (max-fold 0 n 0 (sym (max_none f)))

  -- of those that pass a test
  module _ (test : ℕ → Bool) where
    abbrev passed : ℕ → ℕ
    passed k = cond (test (f k)) (f k) 0

    where-fold : (k n a : ℕ) → a ≡ max_below k passed → fold max a (filter test (map f (range_with_len k n))) ≡ max_below (k + n) passed
    where-fold k zero a h = let e : k + 0 ≡ k = omega arith in rw (e, h)
    where-fold k (suc n) a h =
        let e : k + suc n ≡ k + 1 + n = omega arith in
        let next = max-next passed k in
        split (test (f k))
        (λ y. rw (e, y) (where-fold (k + 1) n (max a (f k)) (let g = rw y at next in omega (arith, h, g))))
        (λ y. rw (e, y) (where-fold (k + 1) n a (let g = rw y at next in omega (arith, h, g))))

    -- `(0..n).map(f).filter(test).max().unwrap_or(0)`
    pub max-range-where : (n : ℕ) (o : Option ℕ) → option_map (λ x. x) o ≡ reduce max (filter test (map f (range_with_len 0 n))) → unwrap_or o 0 ≡ max_where n (λ k. test (f k)) f
    max-range-where n o e =
        let z : 0 + n ≡ n = omega arith in
        ap (λ o. unwrap_or o 0) (answer e) ∙ greatest-or (filter test (map f (range_with_len 0 n))) ∙ rw z at (where-fold 0 n 0 (sym (max_none passed)))

  -- the least: the indices from k on, behind the least of those before
  min-fold : (k n a : ℕ) → a ≡ min_up_to k f → fold min a (map f (range_with_len (k + 1) n)) ≡ min_up_to (k + n) f
  unfolding min_up_to
  min-fold k zero a h = let e : k + 0 ≡ k = omega arith in rw (e, h)
  min-fold k (suc n) a h =
      let e : k + suc n ≡ k + 1 + n = omega arith in
      let s : k + 1 ≡ suc k = omega arith in
      rw e (min-fold (k + 1) n (min a (f (k + 1))) (rw (s, h) refl))

  -- `(0..n).map(f).min().unwrap_or(0)`
  pub min-range : (n : ℕ) → 0 < n → (o : Option ℕ) → option_map (λ x. x) o ≡ reduce min (map f (range_with_len 0 n)) → unwrap_or o 0 ≡ min_up_to (pred n) f
  unfolding min_up_to
  min-range zero l o e = absurd (omega arith)
  min-range (suc n) l o e =
      let z : 0 + n ≡ n = omega arith in
      ap (λ o. unwrap_or o 0) (answer e) ∙ rw z at (min-fold 0 n (f 0) refl)
