-- The state of a tick, by what the code reads and writes.
use Prim.Native.Nat.{ℕ, zero, suc, ◌+◌, ◌≤◌, ◌<◌}
use mathlib.Core.Bool.{true, false}
use mathlib.Core.List.{List}
use mathlib.Core.Path.{◌≡◌, sym, subst, ◌∙◌}
use native.Mathlib.Numerals.{add-one}
use native.Mathlib.Omega.{arith}
use native.Mathlib.Decide.{ℕ_discrete}
use lib.ListN.{get_or}
use lib.Seq.{ext_get_or}
use borrow.Author.Tests.{lt-ltb}
use denote.Param.Members.{Mut, Called}
use Rattle.std.specs.Prelude.{Option, Some, None, MatchOption}
use Rattle.std.specs.Array.{IsFromFnResultFrom, IsFromFnResult}
use Rattle.rules.specs.Count.{first_below, list_below}
use Rattle.rules.specs.Limits.{all_processors, max_files}
use Rattle.rules.specs.Model.{Instance, task_count, Schedule}
use Rattle.rules.specs.Simulation.{occupies, running_on, held_in, state_at}
use Rattle.rules.proofs.CountLaws.{first-passed, none_first, length-list_below, get_or-list_below}

-- ---- an array made by a closure f of an index, which answers h and changes nothing

module _ {F : Type 0} (g : Mut F (ℕ × Unit {0}) ℕ) (f : F) (h : ℕ → ℕ) (says : (k y : ℕ) (q : F) → Called g f (k, tt) y q → (q ≡ f) × (y ≡ h k)) where
  each-is : (ys : List ℕ) (m i : ℕ) → IsFromFnResultFrom g f ys i m → (k : ℕ) → i ≤ k → k < i + m → get_or ys k 0 ≡ h k
  each-is ys zero i d k l u = absurd (omega arith)
  each-is ys (suc m) i (q, y, at, call, rest) k l u = elim (ℕ_discrete k i) [
    | yes e ↦ rw e (at.1 0 ∙ (says i y q call).1)
    | no n ↦ each-is ys m (i + 1) (subst (λ v. IsFromFnResultFrom g v ys (i + 1) m) (says i y q call).0 rest) k (omega arith) (omega arith)
  ]

  pub array-is : (ys : List ℕ) (n : ℕ) → IsFromFnResult g f ys n → ys ≡ list_below n h
  array-is ys n d =
      ext_get_or 0 ys (list_below n h) (d.long ∙ sym (length-list_below n h))
      (λ k l. each-is ys n 0 d.each k (omega arith) (omega (arith, d.long)) ∙ sym (get_or-list_below n h k 0 (omega (arith, d.long))))

-- ---- the two lists of a state

module _ (I : Instance) (P : Schedule) (t : ℕ) where
  pub running-is : (l : List ℕ) → l ≡ list_below all_processors (λ p. running_on I P t (suc p)) → l ≡ (state_at I P t).running
  unfolding state_at
  running-is l e = e

  pub contents-is : (l : List ℕ) → l ≡ list_below max_files (held_in I P t) → l ≡ (state_at I P t).contents
  unfolding state_at
  contents-is l e = e

  -- ---- what a processor runs, by the lowest task that occupies it

  pub runs-first : (p n : ℕ) (o : Option ℕ) {r : ℕ} → task_count I ≡ n → MatchOption o (r ≡ 0) (λ i. r ≡ i + 1)
      → MatchOption o ((k : ℕ) → 0 ≤ k → k < n → occupies I P p t k ≡ false)
      (λ i. (0 ≤ i) × (i < n) × (occupies I P p t i ≡ true) × ((k : ℕ) → 0 ≤ k → k < i → occupies I P p t k ≡ false)) → r ≡ running_on I P t p
  unfolding running_on
  runs-first p n None m e none = rw (e, none_first (task_count I) (occupies I P p t) (λ k l. none k (omega arith) (omega arith)))
  runs-first p n (Some i) m e (z, h, met, none) =
      let u : i < task_count I = omega arith in
      let q : i ≡ first_below (task_count I) (occupies I P p t) =
      first-passed (task_count I) (occupies I P p t) i (omega arith) (λ l. met) (λ k l. none k (omega arith) l) in
      rw (e, ← q, lt-ltb i (task_count I) u) (add-one i)
