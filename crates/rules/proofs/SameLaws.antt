-- Lists with the same changes, each as often: all sums over them are equal. And that changes can be put into time order: order_law.
use Prim.Native.Nat.{ℕ, zero, suc, ◌+◌, ◌≤◌, ◌<◌}
use mathlib.Core.Bool.{Bool, true, false, not, cond, ◌&&◌}
use mathlib.Core.List.{List, [], ◌∷◌}
use mathlib.Core.Path.{◌≡◌, refl, ap}
use native.Mathlib.Omega.{arith}
use lib.Dec.{leb, eqb}
use borrow.Author.Tests.{leb-true, leb-false, eqb-true, eq-eqb}
use Rattle.rules.specs.Count.{sum_over}
use Rattle.rules.specs.Changes.{Change, changes, same_change, occurrences, SameChanges, time_key, InOrder}
use Rattle.rules.specs.ChangesPromises.{OrderLaw}
use Rattle.rules.proofs.Tests.{split, clash, and-true}

-- ---- whether two changes are the same

same-rises : (a b : Bool) → cond a b (not b) ≡ true → a ≡ b
same-rises true true e = refl
same-rises true false e = clash e refl
same-rises false true e = clash e refl
same-rises false false e = refl

rises-self : (a : Bool) → cond a a (not a) ≡ true
rises-self true = refl
rises-self false = refl

same_true : (x y : Change) → same_change x y ≡ true → x ≡ y
same_true x y e =
    let p = and-true (eqb x.tick y.tick && cond x.rises y.rises (not y.rises)) (eqb x.amount y.amount) e in
    let q = and-true (eqb x.tick y.tick) (cond x.rises y.rises (not y.rises)) p.0 in
    let t = eqb-true _ _ q.0 in
    let r = same-rises x.rises y.rises q.1 in
    let a = eqb-true _ _ p.1 in
    λ k. record { tick = t k; rises = r k; amount = a k }

same_self : (x : Change) → same_change x x ≡ true
same_self x = rw (eq-eqb x.tick x.tick refl, rises-self x.rises, eq-eqb x.amount x.amount refl)

-- ---- sums

abbrev without : Change → List Change → List Change
without x [] = []
without x (y ∷ ys) = cond (same_change x y) ys (y ∷ without x ys)

-- one occurrence apart
one_apart : (f : Change → ℕ) (x : Change) (ys : List Change) → 0 < occurrences x ys → sum_over f ys ≡ f x + sum_over f (without x ys)
unfolding sum_over
one_apart f x [] l = absurd (omega arith)
one_apart f x (y ∷ ys) l = split (same_change x y)
    (λ e. rw e (omega (arith, ap f (same_true x y e))))
    (λ e. let m : 0 < 0 + occurrences x ys = rw e at l in rw e (omega (arith, one_apart f x ys (omega arith))))

pub same-sums : (f : Change → ℕ) (xs ys : List Change) → SameChanges xs ys → sum_over f xs ≡ sum_over f ys
unfolding sum_over
same-sums f [] [] same = refl
same-sums f [] (y ∷ ys) same = absurd (let z : 0 ≡ 1 + occurrences y ys = rw (same_self y) at (same y) in omega arith)
same-sums f (x ∷ xs) ys same =
    let here : 1 + occurrences x xs ≡ occurrences x ys = rw (same_self x) at (same x) in
    let l : 0 < occurrences x ys = omega arith in
    let rest : SameChanges xs (without x ys) = λ z. omega (arith, same z, one_apart (λ y. cond (same_change z y) 1 0) x ys l) in
    omega (arith, same-sums f xs (without x ys) rest, one_apart f x ys l)

-- ---- time order

-- ascending from a bound on
abbrev Ascends : ℕ → List Change → Type 0
Ascends b [] = Unit {0}
Ascends b (x ∷ xs) = (b ≤ time_key x) × Ascends (time_key x) xs

ascends-order : (b : ℕ) (xs : List Change) → Ascends b xs → InOrder xs
ascends-order b [] a k l = absurd (omega arith)
ascends-order b (x ∷ []) a k l = absurd (omega arith)
ascends-order b (x ∷ y ∷ ys) a zero l = a.1.0
ascends-order b (x ∷ y ∷ ys) a (suc k) l = ascends-order (time_key x) (y ∷ ys) a.1 k (omega arith)

abbrev insert : Change → List Change → List Change
insert x [] = x ∷ []
insert x (y ∷ ys) = cond (leb (time_key x) (time_key y)) (x ∷ y ∷ ys) (y ∷ insert x ys)

abbrev in_time_order : List Change → List Change
in_time_order [] = []
in_time_order (x ∷ xs) = insert x (in_time_order xs)

insert-ascends : (x : Change) (b : ℕ) (ys : List Change) → b ≤ time_key x → Ascends b ys → Ascends b (insert x ys)
insert-ascends x b [] l a = (l, tt)
insert-ascends x b (y ∷ ys) l a = split (leb (time_key x) (time_key y))
    (λ e. rw e (l, (leb-true _ _ e, a.1)))
    (λ e. rw e (a.0, insert-ascends x (time_key y) ys (omega (arith, leb-false (time_key x) (time_key y) e)) a.1))

all-ascend : (xs : List Change) → Ascends 0 (in_time_order xs)
all-ascend [] = tt
all-ascend (x ∷ xs) = insert-ascends x 0 (in_time_order xs) (omega arith) (all-ascend xs)

insert-sum : (f : Change → ℕ) (x : Change) (ys : List Change) → sum_over f (insert x ys) ≡ f x + sum_over f ys
unfolding sum_over
insert-sum f x [] = refl
insert-sum f x (y ∷ ys) = split (leb (time_key x) (time_key y)) (λ e. rw e) (λ e. rw e (omega (arith, insert-sum f x ys)))

order-sum : (f : Change → ℕ) (xs : List Change) → sum_over f xs ≡ sum_over f (in_time_order xs)
unfolding sum_over
order-sum f [] = refl
order-sum f (x ∷ xs) = omega (arith, order-sum f xs, insert-sum f x (in_time_order xs))

pub order_law : OrderLaw
order_law I P c =
    let xs = changes I P c in
    (in_time_order xs, record { same = λ x. order-sum (λ y. cond (same_change x y) 1 0) xs; order = ascends-order 0 (in_time_order xs) (all-ascend xs) })
