-- The faults of a tick, by what the code asks for.
use Prim.Native.Nat.{ℕ, ◌≤◌, ◌<◌, max}
use mathlib.Core.Bool.{Bool, true, false, not, ◌&&◌, ◌||◌}
use mathlib.Core.Path.{◌≡◌, refl, sym, ◌∙◌}
use mathlib.Core.Logic.{◌≢◌}
use native.Mathlib.Omega.{arith}
use native.Mathlib.Decide.{dec_le}
use lib.Dec.{leb, ltb, eqb}
use borrow.Author.Tests.{leb-true, le-leb, lt-ltb, le-ltb, eqb-true, eq-eqb}
use Rattle.rules.specs.Count.{any_below}
use Rattle.rules.specs.Model.{blue, red, Instance, limit_of, task_count, file_count, Schedule, run_at, start_at, finish_at}
use Rattle.rules.specs.Residency.{held}
use Rattle.rules.specs.Validity.{overlap, over}
use Rattle.rules.specs.Simulation.{shares_from, task_shares, shares_at, file_early, early_at}
use Rattle.rules.proofs.Tests.{same_test, and-true, and-swap, eqb-sym}
use Rattle.rules.proofs.CountLaws.{any_some, any_found}
use Rattle.rules.proofs.ValidLaws.{more-over}
use Rattle.runs.specs.Overlaps.{overlapping}
use Rattle.runs.specs.declared.Run.{Run}
use Rattle.validator.specs.Records.{record_at}
use Rattle.validator.proofs.OverlapLaws.{overlap-self, overlap-records}
use Rattle.simulator.specs.Faults.{begun_overlaps, starts_overlapping}

-- ---- 15

module _ (I : Instance) (P : Schedule) where
  pub same-task : (i j : ℕ) → i ≡ j → false ≡ overlap I P i j
  same-task i j e = sym (overlap-self I P i j e)

  pub two-tasks : (i j : ℕ) → i ≢ j → {a b : Run} {r : Bool} → a ≡ record_at I P i → b ≡ record_at I P j → r ≡ overlapping a b → r ≡ overlap I P i j
  two-tasks i j ne p q e = rw (overlap-records I P i j ne, ← p, ← q) e

  -- an overlap is one of both runs
  overlap-swap : (i j : ℕ) → overlap I P i j ≡ overlap I P j i
  unfolding overlap
  overlap-swap i j = rw (eqb-sym i j, eqb-sym (run_at P i).processor (run_at P j).processor)
      (and-swap (not (eqb j i) && eqb (run_at P j).processor (run_at P i).processor) (ltb (start_at P i) (finish_at I P j)) (ltb (start_at P j) (finish_at I P i)))

  module _ (t : ℕ) where
    found : (i j : ℕ) → i < task_count I → j < task_count I → overlap I P i j ≡ true → start_at P i ≡ t → start_at P j ≤ t
        → any_below (task_count I) (starts_overlapping I P t) ≡ true
    found i j a b o e l =
        any_some (task_count I) (starts_overlapping I P t) i a
        (rw (eq-eqb (start_at P i) t e) (any_some (task_count I) (begun_overlaps I P t i) j b (rw (le-leb (start_at P j) t l) o)))

    -- the run whose start is the later overlaps one that starts by then
    shares-starts : shares_at I P t ≡ true → any_below (task_count I) (starts_overlapping I P t) ≡ true
    unfolding shares_at
    shares-starts h =
        let r = any_found (task_count I) (task_shares I P t) h in
        let q = any_found (task_count I) (shares_from I P t r.0) r.2 in
        let x = and-true (overlap I P r.0 q.0) _ q.2 in
        let m = eqb-true (max (start_at P r.0) (start_at P q.0)) t x.1 in
        elim (dec_le (start_at P q.0) (start_at P r.0)) [
          | yes l ↦ found r.0 q.0 r.1 q.1 x.0 (omega arith) (omega arith)
          | no l ↦ found q.0 r.0 q.1 r.1 (overlap-swap q.0 r.0 ∙ x.0) (omega arith) (omega arith)
        ]

    starts-shares : any_below (task_count I) (starts_overlapping I P t) ≡ true → shares_at I P t ≡ true
    unfolding shares_at
    starts-shares h =
        let r = any_found (task_count I) (starts_overlapping I P t) h in
        let x = and-true (eqb (start_at P r.0) t) _ r.2 in
        let q = any_found (task_count I) (begun_overlaps I P t r.0) x.1 in
        let y = and-true (leb (start_at P q.0) t) _ q.2 in
        let e = eqb-true (start_at P r.0) t x.0 in
        let l = leb-true (start_at P q.0) t y.0 in
        let m : max (start_at P r.0) (start_at P q.0) ≡ t = omega arith in
        any_some (task_count I) (task_shares I P t) r.0 r.1
        (any_some (task_count I) (shares_from I P t r.0) q.0 q.1 (rw y.1 (eq-eqb _ t m)))

    pub shares-is : any_below (task_count I) (starts_overlapping I P t) ≡ shares_at I P t
    shares-is = same_test _ _ starts-shares shares-starts

    -- ---- 16

    pub early-is : any_below (file_count I) (file_early I P t) ≡ early_at I P t
    unfolding early_at
    early-is = refl

-- ---- 17

over-is : (I : Instance) (P : Schedule) (t : ℕ) {l m x y : ℕ} → limit_of I blue ≡ l → limit_of I red ≡ m → x ≡ held I P blue t → y ≡ held I P red t
    → ltb l x || ltb m y ≡ over I P t
unfolding over
over-is I P t p q r s = rw (sym p, sym q, r, s)

module _ (I : Instance) (P : Schedule) (t : ℕ) {l x : ℕ} (p : limit_of I blue ≡ l) (r : x ≡ held I P blue t) where
  pub over_yes : l < x → ltb l x ≡ over I P t
  over_yes h = lt-ltb l x h ∙ sym (more-over I P t blue (omega arith))

  pub over-rest : x ≤ l → {m y : ℕ} → limit_of I red ≡ m → y ≡ held I P red t → ltb m y ≡ over I P t
  over-rest h q s = rw (le-ltb l x h) at (over-is I P t p q r s)
