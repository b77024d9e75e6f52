-- `(0..n).any(..)` by a test of an index: it answers whether the test holds of an index below n.
use Prim.Native.Nat.{ℕ, ◌+◌, ◌<◌}
use mathlib.Core.Bool.{Bool, true, false}
use mathlib.Core.Path.{◌≡◌, sym, ap, subst, ◌∙◌}
use native.Mathlib.Omega.{arith}
use denote.Param.Members.{Mut, Called}
use Rattle.std.specs.Prelude.{Option, Some, None, IfSome, IsSomeAnd, MatchOption, MatchBool, IsTrue}
use Rattle.std.specs.Option.{option_map}
use Rattle.std.specs.Iterator.Runs.{Run, CallKeepsClosure, AnyItemGives, AllItemsGive}
use Rattle.std.proofs.iter.Yields.{nat_range_steps}
use Rattle.std.proofs.iter.runs.Sources.{range_runs}
use Rattle.rules.specs.Count.{any_below}
use Rattle.rules.proofs.CountLaws.{any_some, none_any}

-- the closure f, called at an index below n, answers q of it, and changes nothing
module _ {F : Type 0} (g : Mut F (ℕ × Unit {0}) Bool) (f : F) (n : ℕ) (q : ℕ → Bool) (p : Run nat_range_steps) (from : p.from.start ≡ 0) (end : p.from.end ≡ n)
    (keeps : CallKeepsClosure g f) (says : (k : ℕ) (b : Bool) → k < n → Called g f (k, tt) b f → b ≡ q k) where
  yes : (k : ℕ) (o : Option ℕ) → IfSome o (λ x. (x ≡ p.from.start + k) × (x < p.from.end)) → IsSomeAnd o (λ x. Called g f (x, tt) true f) → any_below n q ≡ true
  yes k None a b = absurd b
  yes k (Some x) a b = any_some n q x (omega (arith, a.1)) (sym (says x true (omega (arith, a.1)) b))

  no : (k : ℕ) (o : Option ℕ) → option_map (λ y. y) o ≡ Some (p.from.start + k) → IfSome o (λ x. (x ≡ p.from.start + k) × (x < p.from.end))
      → IfSome o (λ x. Called g f (x, tt) false f) → q k ≡ false
  no k None e a b = absurd (subst (λ o. MatchOption o (Unit {0}) (λ _. ⊥)) e tt)
  no k (Some x) e a b =
      let z : x ≡ k = omega (arith, a.0) in
      ap q (sym z) ∙ sym (says x false (omega (arith, a.1)) b)

  pub any-range : (r : Bool) → MatchBool r (AnyItemGives p g f true) (IsTrue p.whole × AllItemsGive p g f false) → r ≡ any_below n q
  any-range true h =
      let some = h keeps in
      sym (yes some.0 (p.at some.0) ((range_runs p p.seen).2 some.0) some.2)
  any-range false h =
      let up = range_runs p p.seen in
      sym (none_any n q (λ k l. no k (p.at k) (up.3 k (omega (arith, up.1 h.0))) (up.2 k) (h.1 keeps k)))
