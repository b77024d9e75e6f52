-- Order 9: span and peaks from the staircases of a whole plan: stairs_peak, last_span.
use Prim.Native.Nat.{ℕ, ◌-◌, ◌≤◌, ◌<◌, pred}
use mathlib.Core.Bool.{true}
use mathlib.Core.List.{List}
use mathlib.Core.Path.{◌≡◌, sym, ◌∙◌, ap}
use native.Mathlib.Omega.{arith}
use native.Mathlib.Decide.{dec_le, ℕ_discrete}
use lib.ListN.{length, get_or}
use Rattle.rules.specs.Count.{max_below}
use Rattle.rules.specs.Model.{Colour, Instance, limit_of, processor_count, task_count, is_placed, run_at, Schedule, finish_at}
use Rattle.rules.specs.Residency.{held}
use Rattle.rules.specs.Validity.{Greatest, makespan}
use Rattle.rules.specs.Scheduling.{aware, Partial, empty, assign}
use Rattle.rules.specs.Promises.{WellFormed, Trial}
use Rattle.rules.specs.Staircase.{Step, step_at, Staircase, free_at, stairs, least_free, Placed, unplaced, placed}
use Rattle.rules.specs.StairsPromises.{StairsPeak, LastSpan}
use Rattle.rules.proofs.CountLaws.{max-bound, max-under, min-bound, min-reached, get_or-same}
use Rattle.rules.proofs.CompleteLaws.{greatest-unique, peak-greatest}
use Rattle.rules.proofs.StartLaws.{slot_for}
use Rattle.rules.proofs.SoundLaws.{Sound, placed-processor, added, stays, new-finish, old-finish, new-last, old-last}
use Rattle.rules.proofs.StaircaseLaws.{standing}
use Rattle.rules.proofs.StairsLaws.{stairs-are, placed-sound}

-- ---- the peaks

-- the least amount of a staircase is the least of its function
module _ (f : ℕ → ℕ) (xs : List Step) (c : Staircase f xs) where
  least-bound : (t : ℕ) → least_free xs ≤ f t
  unfolding least_free
  least-bound t =
      let s = standing f xs c t in
      omega (arith, min-bound (pred (length xs)) (λ k. (step_at xs k).free) s.0 (omega (arith, s.1.exists)), c.level t s.0 s.1)

  least-reached : (t : ℕ) × (f t ≡ least_free xs)
  unfolding least_free
  least-reached =
      let r = min-reached (pred (length xs)) (λ k. (step_at xs k).free) in
      let k = r.0 in (
        (step_at xs k).tick,
        sym (c.level (step_at xs k).tick k (record { exists = omega (arith, r.1, c.one); begun = omega arith; goes_on = λ l. c.ascending k l })) ∙ r.2,
      )

module _ (I : Instance) (P : Schedule) (c : Colour) (within : (t : ℕ) → held I P c t ≤ limit_of I c) where
  least-greatest : Greatest (λ t. Unit {0}) (held I P c) (limit_of I c - least_free (stairs I P c))
  unfolding free_at
  least-greatest = record {
    bound = λ t _. omega (arith, within t, least-bound (free_at I P c) (stairs I P c) (stairs-are I P c) t);
    reached = let r = least-reached (free_at I P c) (stairs I P c) (stairs-are I P c) in (r.0, tt, omega (arith, within r.0, r.1));
  }

pub stairs_peak : StairsPeak
stairs_peak I W Q p C c = greatest-unique (peak-greatest I W Q.schedule C c) (least-greatest I Q.schedule c ((placed-sound I W p).2 c))

-- ---- the span

-- a last finish is 0, or the finish of a run that is placed
abbrev LastRuns : Instance → Partial → Type 0
LastRuns I Q = (p : ℕ) → 0 < get_or Q.last_finish p 0
    → (j : ℕ) × (j < task_count I) × (is_placed (run_at Q.schedule j) ≡ true) × (finish_at I Q.schedule j ≡ get_or Q.last_finish p 0)

empty-last : (I : Instance) (p : ℕ) → get_or (empty I).last_finish p 0 ≡ 0
unfolding empty
empty-last I p = get_or-same (processor_count I) p 0

-- the run placed is the last of its processor; the others stay
last_more : (I : Instance) (W : WellFormed I) (n : ℕ) (Q : Partial) (S : Sound I n Q) (i : ℕ) (c : Colour) (s : ℕ) (T : Trial aware I Q i c s)
    → LastRuns I Q → LastRuns I (assign I Q i c s)
last_more I W n Q S i c s T h p l = elim (ℕ_discrete p (slot_for I Q c s)) [
  | yes e ↦
      let a = added I W n Q S aware i c s T in
      (i, T.exists, ap is_placed a.here ∙ a.placed, rw e (new-finish I W n Q S aware i c s T ∙ sym (new-last I W n Q S aware i c s T)))
  | no e ↦
      let o = old-last I W n Q S aware i c s T p e in
      let r = h p (omega arith) in
      let k = stays I W n Q S aware i c s T r.0 r.2 in
      (r.0, r.1, ap is_placed k ∙ r.2, old-finish I W n Q S aware i c s T r.0 k ∙ r.3 ∙ sym o)
]

last_runs : (I : Instance) → WellFormed I → {Q : Partial} → Placed I Q → LastRuns I Q
last_runs I W unplaced = λ p l. absurd (omega (arith, empty-last I p))
last_runs I W (placed {Q = Q} i c s q T) = last_more I W (placed-sound I W q).0 Q (placed-sound I W q).1 i c s T (last_runs I W q)

pub last_span : LastSpan
unfolding makespan
last_span I W Q q C =
    let P = Q.schedule in
    let S = (placed-sound I W q).1 in
    let last : ℕ → ℕ = λ p. get_or Q.last_finish p 0 in
    let n = task_count I in
    let m = processor_count I in
    let a : max_below n (finish_at I P) ≤ max_below m last = max-under n (finish_at I P) (max_below m last) (λ j l.
    let r = placed-processor (run_at P j) (C j l) in
    omega (arith, S.finishes j r.0 r.1, max-bound m last r.0 (S.processors j r.0 r.1))) in
    let b : max_below m last ≤ max_below n (finish_at I P) = max-under m last (max_below n (finish_at I P)) (λ p l. elim (dec_le 1 (last p)) [
      | yes k ↦ let r = last_runs I W q p k in omega (arith, max-bound n (finish_at I P) r.0 r.1, r.3)
      | no k ↦ omega arith
    ]) in
    omega arith
