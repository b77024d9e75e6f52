-- `(0..n).fold(..)`: what holds of the start, and goes on from each index to the next, holds of the result.
use Prim.Native.Nat.{ℕ, ◌+◌, ◌≤◌, ◌<◌}
use mathlib.Core.List.{List, [], ◌∷◌}
use mathlib.Core.Path.{◌≡◌, sym, ap, subst, ◌∙◌}
use native.Mathlib.Omega.{arith}
use denote.Param.Members.{Mut, Called}
use Rattle.std.specs.Prelude.{None}
use Rattle.std.specs.Iterator.{Yields, FoldTurn, FoldsItems}
use Rattle.std.specs.List.{FoldsTo}
use Rattle.std.specs.declared.ops.Range.{Range}
use Rattle.std.specs.Iterator.Runs.{CallKeepsClosure}
use Rattle.std.proofs.iter.Yields.{nat_range_steps}

-- the closure f, called at an index below n, takes what holds there to what holds at the next, and changes nothing
module _ {F B : Type 0} (g : Mut F (B × (ℕ × Unit {0})) B) (f : F) (n : ℕ) (P : ℕ → B → Type 0) (keeps : CallKeepsClosure g f)
    (next : (k : ℕ) (a b : B) → k < n → P k a → Called g f (a, (k, tt)) b f → P (k + 1) b) where
  ends : (xs : List ℕ) (s t u : Range ℕ) (a r : B) (f' : F) → s.end ≡ n → s.start ≤ n → P s.start a → Yields nat_range_steps s xs t → nat_range_steps t None u
      → FoldsTo (FoldTurn g) (f, a) xs (f', r) → P n r
  ends [] s t u a r f' e l h y z w =
      let m : s.end ≡ t.end = ap (λ v. v.end) y in
      let b : s.start ≡ t.start = ap (λ v. v.start) y in
      let d : s.start ≡ n = omega (arith, z.1.0) in
      let v : a ≡ r = ap (λ q. q.1) w in
      subst (P n) v (subst (λ k. P k a) d h)
  ends (x ∷ xs) s t u a r f' e l h y z w =
      let j = y.0 in
      let q = w.0 in
      let same : q.0 ≡ f = keeps (a, (x, tt)) q.1 q.0 w.1 in
      let d : x ≡ s.start = y.1.1.1 in
      let k : x < n = omega (arith, y.1.1.0) in
      let p : P (x + 1) q.1 = next x a q.1 k (subst (λ k. P k a) (sym d) h) (subst (λ v. Called g f (a, (x, tt)) q.1 v) same w.1) in
      ends xs j t u q.1 r f' (y.1.0 ∙ e) (omega (arith, y.1.1.2)) (subst (λ k. P k q.1) (omega (arith, y.1.1.2)) p) y.2 z
      (subst (λ v. FoldsTo (FoldTurn g) (v, q.1) xs (f', r)) same w.2)

  pub fold-range : (s : Range ℕ) (a r : B) → s.start ≡ 0 → s.end ≡ n → P 0 a → FoldsItems nat_range_steps g s f a r → P n r
  fold-range s a r b e h x =
      let d = x.2 in
      ends x.0 s d.1.0 d.0 a r x.1 e (omega arith) (subst (λ k. P k a) (sym b) h) d.1.1 d.1.2 x.3
