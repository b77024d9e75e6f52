-- Stepping through a timetable: the ways it ends, and what state it leaves.
use Prim.Native.Nat.{ℕ, suc, ◌+◌, ◌*◌, ◌≤◌, ◌<◌, max, min}
use mathlib.Core.Bool.{Bool, true, false, ◌&&◌}
use mathlib.Core.Path.{◌≡◌, refl, sym, ◌∙◌, ap}
use mathlib.Core.Logic.{◌↔◌}
use native.Mathlib.Omega.{arith}
use native.Mathlib.Decide.{dec_le, ℕ_discrete}
use lib.Dec.{leb, ltb, eqb}
use lib.ListN.{get_or}
use borrow.Author.Tests.{ltb-true, lt-ltb, le-ltb, le-leb, leb-true, lt-leb, eqb-true, eq-eqb}
use Rattle.rules.specs.Count.{first_below}
use Rattle.rules.specs.Limits.{max_tasks, max_files, all_processors}
use Rattle.rules.specs.Model.{Colour, blue, red, Instance, task_count, file_count, Schedule, run_at, start_at}
use Rattle.rules.specs.Residency.{is_held}
use Rattle.rules.specs.Validity.{Claim, ShareInstant, Occupies, makespan}
use Rattle.rules.specs.Promises.{WellFormed, Spellable}
use Rattle.rules.specs.Simulation.{occupies, running_on, memory_number, held_in, state_at, is_turn, fault_at, closing, first_faulty, step_ticks, step_count, state_after, Progress, steps_left, stopped, ended, left_of, progress_of, watch}
use Rattle.rules.specs.SimulationPromises.{is_in, Shows, Nth, StepLaw, by15, Faulty}
use Rattle.rules.proofs.Tests.{split, clash, and-true}
use Rattle.rules.proofs.CountLaws.{first_holds, first_found, length-list_below, get_or-list_below}
use Rattle.rules.proofs.WhereLaws.{length-where, where-nth}
use Rattle.rules.proofs.CompleteLaws.{spellable-complete}
use Rattle.rules.proofs.TickFaultLaws.{before-faulty}
use Rattle.rules.proofs.TickLaws.{step_bound}

-- ---- how it ends

module _ (I : Instance) (P : Schedule) where
  -- a faulty tick is found
  abbrev pub found : Bool
  found = ltb (first_faulty I P) (closing I P)

  -- what it stops for
  abbrev pub stop : Progress
  stop = stopped (fault_at I P (first_faulty I P)) (first_faulty I P)

  pub watch-progress : (w : ℕ) → (watch I P w).progress ≡ progress_of I P w
  unfolding watch
  watch-progress w = refl

  pub watch-made : (w : ℕ) → (watch I P w).made ≡ min w (step_count I P)
  unfolding watch
  watch-made w = refl

  pub watch-state : (w : ℕ) → (watch I P w).state ≡ state_after I P (watch I P w).made
  unfolding watch
  watch-state w = refl

  pub progress-stops : (w : ℕ) → found ≡ true → step_count I P < w → progress_of I P w ≡ stop
  unfolding progress_of
  progress-stops w e l = rw (e, lt-leb w (step_count I P) l)

  pub progress-walks : (w : ℕ) → found ≡ true → w ≤ step_count I P → progress_of I P w ≡ steps_left
  unfolding progress_of
  progress-walks w e l = rw (e, le-leb w (step_count I P) l)

  pub progress-ends : (w : ℕ) → found ≡ false → step_count I P ≤ w → progress_of I P w ≡ ended (makespan I P)
  unfolding progress_of
  progress-ends w e l = rw (e, le-ltb w (step_count I P) l)

  pub progress-goes : (w : ℕ) → found ≡ false → w < step_count I P → progress_of I P w ≡ steps_left
  unfolding progress_of
  progress-goes w e l = rw (e, lt-ltb w (step_count I P) l)

  -- the four ways
  pub data Ends (w : ℕ) : Progress → Type 0 where
    walks : found ≡ true → w ≤ step_count I P → Ends w steps_left
    stops : found ≡ true → step_count I P < w → Ends w stop
    goes : found ≡ false → w < step_count I P → Ends w steps_left
    ends : found ≡ false → step_count I P ≤ w → Ends w (ended (makespan I P))

  pub progress : (w : ℕ) → Ends w (progress_of I P w)
  progress w = split found
      (λ e. elim (dec_le w (step_count I P)) [
        | yes l ↦ rw (progress-walks w e l) (walks e l)
        | no l ↦ let m : step_count I P < w = omega arith in rw (progress-stops w e m) (stops e m)
      ])
      (λ e. elim (dec_le (step_count I P) w) [
        | yes l ↦ rw (progress-ends w e l) (ends e l)
        | no l ↦ let m : w < step_count I P = omega arith in rw (progress-goes w e m) (goes e m)
      ])

  -- while steps are left, all that were wanted are made
  pub left-made : {w : ℕ} {c : Progress} → Ends w c → left_of c ≡ 1 → w ≤ step_count I P
  left-made (walks e l) h = l
  left-made (stops e l) h = absurd (omega arith)
  left-made (goes e l) h = omega arith
  left-made (ends e l) h = absurd (omega arith)

  pub watch-left : (w : ℕ) → (watch I P w).progress ≡ steps_left → (watch I P w).made ≡ w
  watch-left w h = omega (arith, watch-made w, left-made (progress w) (ap left_of (sym (watch-progress w) ∙ h)))

  -- all that can be made are made, and the progress is the same: so is the rest
  watch-same : (w v : ℕ) → step_count I P ≤ w → step_count I P ≤ v → progress_of I P w ≡ progress_of I P v → watch I P w ≡ watch I P v
  unfolding watch
  watch-same w v a b e =
      let m : min w (step_count I P) ≡ min v (step_count I P) = omega arith in
      λ i. record { progress = e i; made = m i; state = state_after I P (m i) }

  past : (w v : ℕ) {c : Progress} → Ends w c → c ≡ progress_of I P w → left_of c ≡ 0 → w ≤ v → watch I P v ≡ watch I P w
  past w v (walks e l) q h m = absurd (omega arith)
  past w v (stops e l) q h m = watch-same v w (omega arith) (omega arith) (progress-stops v e (omega arith) ∙ q)
  past w v (goes e l) q h m = absurd (omega arith)
  past w v (ends e l) q h m = watch-same v w (omega arith) l (progress-ends v e (omega arith) ∙ q)

  -- steps past the stop or the end give that stop or end
  pub watch-past : (w v : ℕ) → left_of (progress_of I P w) ≡ 0 → w ≤ v → watch I P v ≡ watch I P w
  watch-past w v h m = past w v (progress w) refl h m

  over-left : {w : ℕ} {c : Progress} → Ends w c → step_count I P < w → left_of c ≡ 0
  over-left (walks e l) m = absurd (omega arith)
  over-left (stops e l) m = refl
  over-left (goes e l) m = absurd (omega arith)
  over-left (ends e l) m = refl

  -- a step more than can be made is past the stop or the end
  pub watch-late : (w v : ℕ) → step_count I P < w → step_count I P < v → watch I P w ≡ watch I P v
  watch-late w v a b = elim (dec_le w v) [
    | yes m ↦ sym (watch-past w v (over-left (progress w) a) m)
    | no m ↦ watch-past v w (over-left (progress v) b) (omega arith)
  ]

-- ---- the state of a tick

occupies-says : (I : Instance) (P : Schedule) (p t i : ℕ) → occupies I P p t i ≡ true → ((run_at P i).processor ≡ p) × Occupies I P i t
occupies-says I P p t i h =
    let x = and-true (eqb (run_at P i).processor p && leb (start_at P i) t) _ h in
    let y = and-true (eqb (run_at P i).processor p) _ x.0 in
    (eqb-true _ _ y.0, record { begun = leb-true _ _ y.1; unfinished = ltb-true _ _ x.1 })

says-occupies : (I : Instance) (P : Schedule) (p t i : ℕ) → (run_at P i).processor ≡ p → Occupies I P i t → occupies I P p t i ≡ true
says-occupies I P p t i e o = rw (eq-eqb _ _ e, le-leb _ _ o.begun, lt-ltb _ _ o.unfinished)

two-occupy : (I : Instance) (P : Schedule) (i j t : ℕ) → Occupies I P i t → Occupies I P j t → ShareInstant I P i j
two-occupy I P i j t a b = record { first = omega (arith, a.begun, b.unfinished); second = omega (arith, b.begun, a.unfinished) }

-- the first of those that occupy a processor
module _ (I : Instance) (P : Schedule) (t p : ℕ) where
  abbrev lowest : ℕ
  lowest = first_below (task_count I) (occupies I P p t)

  runs-some : lowest < task_count I → running_on I P t p ≡ suc lowest
  unfolding running_on
  runs-some l = rw (lt-ltb _ _ l)

  runs_none : task_count I ≤ lowest → running_on I P t p ≡ 0
  unfolding running_on
  runs_none l = rw (le-ltb _ _ l)

  running-occupies : (i : ℕ) → running_on I P t p ≡ suc i → (i < task_count I) × ((run_at P i).processor ≡ p) × Occupies I P i t
  running-occupies i e = elim (dec_le (task_count I) lowest) [
    | yes l ↦ absurd (omega (arith, runs_none l))
    | no l ↦
        let m : lowest < task_count I = omega arith in
        let q : lowest ≡ i = omega (arith, runs-some m) in
        let x = occupies-says I P p t lowest (first_holds (task_count I) (occupies I P p t) m) in
        (omega arith, rw q at x.0, rw q at x.1)
  ]

  -- no two, if no tick up to t is faulty
  occupies-running : ((u : ℕ) → u ≤ t → Faulty I P u → ⊥) → (i : ℕ) → i < task_count I → (run_at P i).processor ≡ p → Occupies I P i t → running_on I P t p ≡ suc i
  occupies-running clear i l e o =
      let f = first_found (task_count I) (occupies I P p t) i l (says-occupies I P p t i e o) in
      let m : lowest < task_count I = omega arith in
      let x = occupies-says I P p t lowest (first_holds (task_count I) (occupies I P p t) m) in
      elim (ℕ_discrete lowest i) [
        | yes q ↦ runs-some m ∙ ap suc q
        | no d ↦ absurd (clear (max (start_at P lowest) (start_at P i)) (omega (arith, x.1.begun, o.begun)) (record {
          number = 15;
          fault = by15 (record {
            one = lowest;
            other = i;
            one_exists = m;
            other_exists = l;
            differ = d;
            processor = x.0 ∙ sym e;
            shares = two-occupy I P lowest i t x.1 o;
            later = refl;
          });
        }))
      ]

in-blue : (b r : Bool) → is_in blue (memory_number b r) ≡ b
in-blue true true = refl
in-blue true false = refl
in-blue false true = refl
in-blue false false = refl

in-red : (b r : Bool) → is_in red (memory_number b r) ≡ r
in-red true true = refl
in-red true false = refl
in-red false true = refl
in-red false false = refl

in-none : (c : Colour) → is_in c 0 ≡ false
in-none blue = refl
in-none red = refl

module _ (I : Instance) (P : Schedule) (t k : ℕ) where
  held-some : k < file_count I → held_in I P t k ≡ memory_number (is_held I P blue t k) (is_held I P red t k)
  unfolding held_in
  held-some l = rw (lt-ltb _ _ l)

  held_none : file_count I ≤ k → held_in I P t k ≡ 0
  unfolding held_in
  held_none l = rw (le-ltb _ _ l)

  held-is : k < file_count I → (c : Colour) → is_in c (held_in I P t k) ≡ is_held I P c t k
  held-is l blue = ap (is_in blue) (held-some l) ∙ in-blue (is_held I P blue t k) (is_held I P red t k)
  held-is l red = ap (is_in red) (held-some l) ∙ in-red (is_held I P blue t k) (is_held I P red t k)

  held-exact : (c : Colour) → (is_in c (held_in I P t k) ≡ true) ↔ ((k < file_count I) × (is_held I P c t k ≡ true))
  held-exact c = (
    (λ h. elim (dec_le (file_count I) k) [
      | yes l ↦ clash h (ap (is_in c) (held_none l) ∙ in-none c)
      | no l ↦ let m : k < file_count I = omega arith in (m, sym (held-is m c) ∙ h)
    ]),
    (λ x. held-is x.0 c ∙ x.1),
  )

memory-four : (b r : Bool) → memory_number b r ≤ 3
memory-four false false = omega arith
memory-four true false = omega arith
memory-four false true = omega arith
memory-four true true = omega arith

held-four : (I : Instance) (P : Schedule) (t k : ℕ) → held_in I P t k ≤ 3
unfolding held_in
held-four I P t k = split (ltb k (file_count I)) (λ e. rw e (memory-four (is_held I P blue t k) (is_held I P red t k))) (λ e. rw e (omega arith))

pub state-shows : (I : Instance) (P : Schedule) (t : ℕ) → ((u : ℕ) → u ≤ t → Faulty I P u → ⊥) → Shows I P t (state_at I P t)
unfolding state_at
state-shows I P t clear = record {
  time = refl;
  processors = length-list_below all_processors _;
  files = length-list_below max_files _;
  runs = λ p i l. (
    (λ h. running-occupies I P t (suc p) i (sym (get_or-list_below all_processors (λ p. running_on I P t (suc p)) p 0 l) ∙ h)),
    (λ x. get_or-list_below all_processors (λ p. running_on I P t (suc p)) p 0 l ∙ occupies-running I P t (suc p) clear i x.0 x.1 x.2),
  );
  holds = λ c k l. (
    (λ h. (held-exact I P t k c).0 (rw (get_or-list_below max_files (held_in I P t) k 0 l) at h)),
    (λ x. rw (get_or-list_below max_files (held_in I P t) k 0 l) ((held-exact I P t k c).1 x)),
  );
  numbers = λ k l. omega (arith, get_or-list_below max_files (held_in I P t) k 0 l, held-four I P t k);
}

-- ---- the state of a step

pub few-steps : (I : Instance) → WellFormed I → (P : Schedule) (claim : Claim) → Spellable I P claim → step_count I P ≤ 2 * (max_tasks + max_files)
unfolding step_count step_ticks
few-steps I W P claim s = omega (arith, length-where (is_turn I P) (first_faulty I P), (step_bound I W P claim s).few (first_faulty I P))

pub step-nth : (I : Instance) (P : Schedule) (n : ℕ) → n < step_count I P
    → (get_or (step_ticks I P) n 0 < first_faulty I P) × Nth (is_turn I P) n (get_or (step_ticks I P) n 0)
unfolding step_count step_ticks
step-nth I P n l =
    let r = where-nth (is_turn I P) (first_faulty I P) n l in
    (r.0, record { holds = r.1; below = r.2 })

pub step_law : StepLaw
step_law I W P claim s w = record {
  none = λ e. watch-state I P w ∙ rw e;
  some = λ n e.
      let l : n < step_count I P = omega (arith, watch-made I P w) in
      let x = step-nth I P n l in
      let t = get_or (step_ticks I P) n 0 in
      let q : (watch I P w).state ≡ state_at I P t = watch-state I P w ∙ rw e in
      let clear : (u : ℕ) → u ≤ t → Faulty I P u → ⊥ = λ u m f. before-faulty I W P (spellable-complete I P claim s) u (omega (arith, x.0)) f in
      (t, x.1, rw q (state-shows I P t clear));
}
