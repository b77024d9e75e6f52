-- The walk over changes.
use Prim.Native.Nat.{ℕ, suc, ◌+◌, ◌*◌, ◌≤◌, ◌<◌, max}
use mathlib.Core.Bool.{Bool, cond}
use mathlib.Core.List.{List}
use mathlib.Core.Option.{Option, none, some}
use mathlib.Core.Path.{◌≡◌, refl, sym, ◌∙◌, ap}
use native.Mathlib.Omega.{arith}
use native.Mathlib.Numerals.{add-one}
use lib.ListN.{length, get_or}
use lib.Dec.{ltb}
use borrow.Author.Tests.{lt-ltb, le-ltb}
use Rattle.std.specs.Prelude.{Option as Over, Some, None}
use Rattle.rules.specs.Count.{max_below, first_below}
use Rattle.rules.specs.Changes.{Change, change_at, changed_by, running_total, greatest_total, over_after, first_over}
use Rattle.rules.proofs.Tests.{by_order, split}
use Rattle.sorting.specs.Sorted.{unit}
use Rattle.changes.specs.Packed.{unpacked}
use Rattle.changes.specs.Listed.{listed}
use Rattle.changes.specs.Totals.{over_of, over_next}
use Rattle.changes.proofs.OrderLaws.{listed-length, listed_at}

-- ---- the walk

total-next : (a : List ℕ) (k : ℕ) → k < length a → changed_by (unpacked (get_or a k 0)) (running_total (listed a) k) ≡ running_total (listed a) (suc k)
unfolding running_total
total-next a k l = ap (λ x. changed_by x (running_total (listed a) k)) (sym (listed_at a k l))

-- the first of the first i changes after which the total is over the limit
abbrev first_at : List Change → ℕ → ℕ → ℕ
first_at xs limit i = first_below i (over_after limit xs)

-- its tick, if there is one
abbrev pub over_before : List Change → ℕ → ℕ → Option ℕ
over_before xs limit i = cond (ltb (first_at xs limit i) i) (some (change_at xs (first_at xs limit i)).tick) none

-- one change more
over-step : (xs : List Change) (limit i : ℕ) (o : Over ℕ) {b : Bool} {tick : ℕ} → over_of o ≡ over_before xs limit i → b ≡ over_after limit xs i
    → tick ≡ (change_at xs i).tick → over_of (over_next o b tick) ≡ over_before xs limit (suc i)
unfolding first_below
over-step xs limit i (Some t) e p q = by_order (first_at xs limit i) i
    (λ l. let m : first_at xs limit i < suc i = omega arith in rw (lt-ltb _ _ l, lt-ltb _ _ m) (rw (lt-ltb _ _ l) at e))
    (λ l. let z : over_of (Some t) ≡ none = rw (le-ltb _ _ l) at e in cc)
over-step xs limit i None {b} e p q = by_order (first_at xs limit i) i
    (λ l. let z : over_of None ≡ some (change_at xs (first_at xs limit i)).tick = rw (lt-ltb _ _ l) at e in cc)
    (λ l. split b
    (λ t. rw (le-ltb _ _ l, ← p, t, lt-ltb i (suc i) (omega arith)) (ap some q))
    (λ f. rw (le-ltb _ _ l, ← p, f, le-ltb (suc i) (suc i) (omega arith)) refl))

-- the first i changes are read
pub record Walking (a : List ℕ) (limit total greatest : ℕ) (over : Over ℕ) (i : ℕ) : Type 0 where
  pub sum : total ≡ running_total (listed a) i
  pub small : total ≤ i * unit
  pub most : greatest ≡ max_below i (λ k. running_total (listed a) (suc k))
  pub first : over_of over ≡ over_before (listed a) limit i

pub walking-none : (a : List ℕ) (limit : ℕ) → Walking a limit 0 0 None 0
unfolding running_total max_below first_below
walking-none a limit = record { sum = refl; small = omega arith; most = refl; first = refl }

pub walking-next : {a : List ℕ} {limit total greatest : ℕ} {over : Over ℕ} {i total' greatest' tick : ℕ} {over' : Over ℕ} → Walking a limit total greatest over i
    → i < length a → total' ≡ changed_by (unpacked (get_or a i 0)) total → total' ≤ total + unit → greatest' ≡ max total' greatest
    → tick ≡ (unpacked (get_or a i 0)).tick → over' ≡ over_next over (ltb limit total') tick → Walking a limit total' greatest' over' (i + 1)
unfolding max_below
walking-next {a} {limit} {total} {greatest} {over} {i} {total'} {greatest'} {tick} {over'} w l e b p k o =
    let t : total' ≡ running_total (listed a) (suc i) = e ∙ ap (λ z. changed_by (unpacked (get_or a i 0)) z) w.sum ∙ total-next a i l in
    rw (add-one i) (record {
      sum = t;
      small = omega (arith, w.small);
      most = omega (arith, w.most, t);
      first = rw o (over-step (listed a) limit i over w.first (ap (ltb limit) t) (k ∙ ap (λ (x : Change). x.tick) (sym (listed_at a i l))));
    })

-- all are read
module _ {a : List ℕ} {limit total greatest : ℕ} {over : Over ℕ} {i : ℕ} (w : Walking a limit total greatest over i) (h : i ≡ length a) where
  end : i ≡ length (listed a)
  end = h ∙ sym (listed-length a)

  pub greatest-walked : greatest ≡ greatest_total (listed a)
  unfolding greatest_total
  greatest-walked = w.most ∙ ap (λ z. max_below z (λ k. running_total (listed a) (suc k))) end

  pub over-walked : over_of over ≡ first_over limit (listed a)
  unfolding first_over
  over-walked = w.first ∙ ap (over_before (listed a) limit) end
