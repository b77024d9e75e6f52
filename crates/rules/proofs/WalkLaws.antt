-- Walking from one tick to the next at which something starts or ends: the first faulty tick is among them, and the walk's answer is `watch`.
use Prim.Native.Nat.{ℕ, zero, suc, ◌≤◌, ◌<◌, min}
use mathlib.Core.Bool.{true, false, cond, ◌||◌}
use mathlib.Core.Path.{◌≡◌, refl, sym, ◌∙◌, ap}
use native.Mathlib.Omega.{arith}
use native.Mathlib.Decide.{dec_le}
use lib.Dec.{leb}
use lib.ListN.{get_or}
use borrow.Author.Tests.{ltb-true, ltb-false, lt-ltb, leb-true, eq-eqb}
use Rattle.rules.specs.Count.{sum_below, count_where, any_below, sum_where}
use Rattle.rules.specs.Model.{Colour, blue, red, Instance, task_count, work_at, file_at, file_count, size_at, Schedule, start_at, move_at, moved}
use Rattle.rules.specs.Residency.{Hold, never, during, since, hold_of, work_of, covers, files_held, work_held, held}
use Rattle.rules.specs.Validity.{Complete, OverLimit, makespan}
use Rattle.rules.specs.Promises.{WellFormed, First}
use Rattle.rules.specs.Simulation.{turns, run_turns, task_turns, move_turns, file_turns, is_turn, fault_at, closing, first_faulty, step_ticks, step_count, state_at, state_after, steps_left, stopped, ended, progress_of, watch}
use Rattle.rules.specs.SimulationPromises.{early_move, early_start, FaultOf, by15, by16, by17, Faulty, FaultTurn}
use Rattle.rules.proofs.Tests.{split, clash, and-true, or_left, or_right}
use Rattle.rules.proofs.CountLaws.{sum-cong, sum_less, sum-zero, any_some}
use Rattle.rules.proofs.WhereLaws.{length-where, count_yes, count-gap, count-mono, where-place}
use Rattle.rules.proofs.PlaceLaws.{first-unique}
use Rattle.rules.proofs.TickFaultLaws.{of-over, first-faulty, some-faulty}
use Rattle.rules.proofs.TickLaws.{still_law, turn-closes}
use Rattle.rules.proofs.WatchLaws.{found, progress-stops, progress-walks, progress-goes, progress-ends}

-- ---- what turns

module _ (I : Instance) (P : Schedule) (t : ℕ) where
  pub task-turn : (i : ℕ) → i < task_count I → task_turns I P t i ≡ true → is_turn I P t ≡ true
  unfolding is_turn
  task-turn i l e = or_left _ (any_below (file_count I) (file_turns I P t)) (any_some (task_count I) (task_turns I P t) i l e)

  pub run-turn : (i : ℕ) → i < task_count I → run_turns I P t i ≡ true → is_turn I P t ≡ true
  run-turn i l e = task-turn i l (or_left (run_turns I P t i || turns (work_of I P blue i) t) _ (or_left (run_turns I P t i) _ e))

  pub file-turn : (k : ℕ) → k < file_count I → file_turns I P t k ≡ true → is_turn I P t ≡ true
  unfolding is_turn
  file-turn k l e = or_right (any_below (task_count I) (task_turns I P t)) _ (any_some (file_count I) (file_turns I P t) k l e)

  pub start-turn : (i : ℕ) → i < task_count I → start_at P i ≡ t → is_turn I P t ≡ true
  start-turn i l e = run-turn i l (rw (eq-eqb (start_at P i) t e))

  pub move-turn : (k : ℕ) → k < file_count I → moved I P k ≡ true → move_at P k ≡ t → is_turn I P t ≡ true
  move-turn k l m e = file-turn k l (rw (m, eq-eqb (move_at P k) t e))

  pub hold-turn : (c : Colour) (k : ℕ) → k < file_count I → turns (hold_of I P c k) t ≡ true → is_turn I P t ≡ true
  hold-turn blue k l e =
      file-turn k l (or_left (move_turns I P t k || turns (hold_of I P blue k) t) (turns (hold_of I P red k) t) (or_right (move_turns I P t k) _ e))
  hold-turn red k l e = file-turn k l (or_right (move_turns I P t k || turns (hold_of I P blue k) t) _ e)

  pub work-turn : (c : Colour) (i : ℕ) → i < task_count I → turns (work_of I P c i) t ≡ true → is_turn I P t ≡ true
  work-turn blue i l e =
      task-turn i l (or_left (run_turns I P t i || turns (work_of I P blue i) t) (turns (work_of I P red i) t) (or_right (run_turns I P t i) _ e))
  work-turn red i l e = task-turn i l (or_right (run_turns I P t i || turns (work_of I P blue i) t) _ e)

-- a hold that covers tick 0 starts there
covers-start : (h : Hold) → covers h 0 ≡ true → turns h 0 ≡ true
covers-start never e = clash e refl
covers-start (during a b) e =
    let x = and-true (leb a 0) _ e in
    let z : a ≡ 0 = omega (arith, leb-true a 0 x.0) in
    let l : a < b = omega (arith, ltb-true 0 b x.1) in
    rw (lt-ltb a b l, eq-eqb a 0 z)
covers-start (since a) e = eq-eqb a 0 (omega (arith, leb-true a 0 e))

-- ---- the first faulty tick is one at which something starts or ends

module _ (I : Instance) (P : Schedule) where
  -- of holds of which something is held at tick 0, one starts there
  covered : (n : ℕ) (hold : ℕ → Hold) (size : ℕ → ℕ) → 0 < sum_where n (λ k. covers (hold k) 0) size → (k : ℕ) × (k < n) × (turns (hold k) 0 ≡ true)
  covered n hold size l =
      let z : sum_below n (λ k. 0) ≡ 0 = sum-zero n (λ k. 0) (λ k a. refl) in
      let r = sum_less n (λ k. 0) (λ k. cond (covers (hold k) 0) (size k) 0) (omega arith) in (
        r.0,
        r.1,
        split (covers (hold r.0) 0)
            (covers-start (hold r.0))
            (λ e. absurd (let m : 0 < 0 = rw e at r.2 in omega arith)),
      )

  files-start : (c : Colour) → 0 < files_held I P c 0 → is_turn I P 0 ≡ true
  unfolding files_held
  files-start c l = let r = covered (file_count I) (hold_of I P c) (size_at I) l in hold-turn I P 0 c r.0 r.1 r.2

  work_start : (c : Colour) → 0 < work_held I P c 0 → is_turn I P 0 ≡ true
  unfolding work_held
  work_start c l = let r = covered (task_count I) (work_of I P c) (work_at I) l in work-turn I P 0 c r.0 r.1 r.2

  -- what is held at tick 0 starts there
  held_start : (c : Colour) → 0 < held I P c 0 → is_turn I P 0 ≡ true
  unfolding held
  held_start c l = elim (dec_le (files_held I P c 0) 0) [ yes h ↦ work_start c (omega arith) | no h ↦ files-start c (omega arith) ]

  -- a memory holds what it held
  held-still : (c : Colour) (t : ℕ) → is_turn I P (suc t) ≡ false → held I P c (suc t) ≡ held I P c t
  unfolding held files_held work_held
  held-still c t e =
      let f : files_held I P c (suc t) ≡ files_held I P c t =
      sum-cong (file_count I) _ _ (λ k l. ap (λ x. cond x (size_at I k) 0) ((still_law I P t e).1 c k l)) in
      let w : work_held I P c (suc t) ≡ work_held I P c t =
      sum-cong (task_count I) _ _ (λ i l. ap (λ x. cond x (work_at I i) 0) ((still_law I P t e).2 c i l)) in
      rw (f, w)

  over-turn : (t : ℕ) → ((u : ℕ) → Faulty I P u → t ≤ u) → OverLimit I P t → is_turn I P t ≡ true
  over-turn zero least o = held_start o.memory (omega (arith, o.more))
  over-turn (suc t) least o = split (is_turn I P (suc t))
      (λ e. e)
      (λ e.
      let s = held-still o.memory t e in
      let f = of-over I P t (record { memory = o.memory; more = rw s at o.more }) in
      absurd (omega (arith, least t f)))

  module _ (W : WellFormed I) where
    fault-turn : (t : ℕ) {n : ℕ} → ((u : ℕ) → Faulty I P u → t ≤ u) → FaultOf I P t n → is_turn I P t ≡ true
    fault-turn t least (by15 x) = elim (dec_le (start_at P x.one) (start_at P x.other)) [
      | yes h ↦ start-turn I P t x.other x.other_exists (omega (arith, x.later))
      | no h ↦ start-turn I P t x.one x.one_exists (omega (arith, x.later))
    ]
    fault-turn t least (by16 a (early_move k l m b e)) = move-turn I P t k l m e
    fault-turn t least (by16 a (early_start k l b e)) = start-turn I P t (file_at I k).reader (W.exists k l) e
    fault-turn t least (by17 a b o) = over-turn t least o

first-turn : (I : Instance) → WellFormed I → (P : Schedule) (t : ℕ) → First (Faulty I P) t → is_turn I P t ≡ true
first-turn I W P t f = fault-turn I P W t f.least f.holds.fault

pub fault_turn : FaultTurn
fault_turn I W P claim s = first-turn I W P

-- ---- the walk

-- the ticks below `from` are passed: n steps made, and no fault met
pub record Walked (I : Instance) (P : Schedule) (from n : ℕ) : Type 0 where
  pub steps : count_where from (is_turn I P) ≡ n
  pub clear : (t : ℕ) → t < from → Faulty I P t → ⊥

-- the next tick at which something starts or ends
abbrev pub Next : Instance → Schedule → ℕ → ℕ → Type 0
Next I P from u = First (λ u. (from ≤ u) × (is_turn I P u ≡ true)) u

pub walk_begins : (I : Instance) (P : Schedule) → Walked I P 0 0
unfolding sum_below
walk_begins I P = record { steps = refl; clear = λ t l. absurd (omega arith) }

pub count-is : (I : Instance) (P : Schedule) → step_count I P ≡ count_where (first_faulty I P) (is_turn I P)
unfolding step_count step_ticks
count-is I P = length-where (is_turn I P) (first_faulty I P)

place_is : (I : Instance) (P : Schedule) (u : ℕ) → u < first_faulty I P → is_turn I P u ≡ true → get_or (step_ticks I P) (count_where u (is_turn I P)) 0 ≡ u
unfolding step_ticks
place_is I P u l e = where-place (is_turn I P) (first_faulty I P) u l e

-- the answer, with all steps made that can be
answer : (I : Instance) (P : Schedule) (w n : ℕ) → n ≡ min w (step_count I P)
    → watch I P w ≡ record { progress = progress_of I P w; made = n; state = state_after I P n }
unfolding watch
answer I P w n e = λ i. record { progress = progress_of I P w; made = sym e i; state = state_after I P (sym e i) }

module _ (I : Instance) (W : WellFormed I) (P : Schedule) (C : Complete I P) (from n : ℕ) (walked : Walked I P from n) where
  -- between here and the next nothing starts or ends
  same_count : (u : ℕ) → Next I P from u → count_where u (is_turn I P) ≡ n
  same_count u x = count-gap (is_turn I P) from u x.holds.0 (λ k a b. quiet k a b) ∙ walked.steps
    where
      quiet : (k : ℕ) → from ≤ k → k < u → is_turn I P k ≡ false
      quiet k a b = split (is_turn I P k) (λ e. absurd (omega (arith, x.least k (a, e)))) (λ e. e)

  -- a fault is not met before the next
  clear-to : (u : ℕ) → Next I P from u → (t : ℕ) → t < u → Faulty I P t → ⊥
  clear-to u x t l f =
      let g = first-faulty I W P C (some-faulty I W P C t f) in
      let a = g.least t f in
      elim (dec_le from (first_faulty I P)) [
        | yes h ↦ omega (arith, x.least (first_faulty I P) (h, first-turn I W P (first_faulty I P) g))
        | no h ↦ walked.clear (first_faulty I P) (omega arith) g.holds
      ]

  clear-on : (u : ℕ) → Next I P from u → (Faulty I P u → ⊥) → (t : ℕ) → t < suc u → Faulty I P t → ⊥
  clear-on u x c t l f = elim (dec_le u t) [
    | yes h ↦ let e : t ≡ u = omega arith in c (rw e at f)
    | no h ↦ clear-to u x t (omega arith) f
  ]

  before-first : (u : ℕ) → is_turn I P u ≡ true → ((t : ℕ) → t < suc u → Faulty I P t → ⊥) → u < first_faulty I P
  before-first u e c = elim (dec_le (first_faulty I P) u) [
    | no h ↦ omega arith
    | yes h ↦
        let l : first_faulty I P < closing I P = omega (arith, turn-closes I W P C u e) in
        absurd (c (first_faulty I P) (omega arith) (first-faulty I W P C (lt-ltb _ _ l)).holds)
  ]

  -- a step onto a tick that is not faulty
  pub walk_steps : (u : ℕ) → Next I P from u → (Faulty I P u → ⊥) → Walked I P (suc u) (suc n) × (state_after I P (suc n) ≡ state_at I P u)
  walk_steps u x c =
      let e = x.holds.1 in
      let q = same_count u x in
      let l = before-first u e (clear-on u x c) in
      let p : get_or (step_ticks I P) n 0 ≡ u = rw q at (place_is I P u l e) in
      (record { steps = count_yes (is_turn I P) u e ∙ ap suc q; clear = clear-on u x c }, ap (state_at I P) p)

  -- a step is left if a next tick is
  pub walk-left : (u : ℕ) → Next I P from u → watch I P n ≡ record { progress = steps_left; made = n; state = state_after I P n }
  walk-left u x = elim (dec_le (first_faulty I P) u) [
    | yes h ↦
        let l : first_faulty I P < closing I P = omega (arith, turn-closes I W P C u x.holds.1) in
        let f = first-faulty I W P C (lt-ltb _ _ l) in
        let e : first_faulty I P ≡ u = elim (dec_le u (first_faulty I P)) [ yes g ↦ omega arith | no g ↦ absurd (clear-to u x (first_faulty I P) (omega arith) f.holds) ] in
        let m : step_count I P ≡ n = count-is I P ∙ ap (λ t. count_where t (is_turn I P)) e ∙ same_count u x in
        answer I P n n (omega arith)
        ∙ ap (λ c. record { progress = c; made = n; state = state_after I P n }) (progress-walks I P n (lt-ltb _ _ l) (omega arith))
    | no h ↦
        let m = count-mono (is_turn I P) (suc u) (first_faulty I P) (omega arith) in
        let y = count_yes (is_turn I P) u x.holds.1 in
        let k : n < step_count I P = omega (arith, count-is I P, same_count u x) in
        answer I P n n (omega arith)
        ∙ ap (λ c. record { progress = c; made = n; state = state_after I P n })
        (split (found I P) (λ e. progress-walks I P n e (omega arith)) (λ e. progress-goes I P n e k))
  ]

  -- it stops at the next if that is faulty
  pub walk-stops : (u w : ℕ) → Next I P from u → Faulty I P u → n < w
      → watch I P w ≡ record { progress = stopped (fault_at I P u) u; made = n; state = state_after I P n }
  walk-stops u w x f l =
      let e = some-faulty I W P C u f in
      let g : First (Faulty I P) u = record {
        holds = f;
        least = λ m y. elim (dec_le u m) [ yes h ↦ h | no h ↦ absurd (clear-to u x m (omega arith) y) ];
      } in
      let q : first_faulty I P ≡ u = first-unique (first-faulty I W P C e) g in
      let m : step_count I P ≡ n = count-is I P ∙ ap (λ t. count_where t (is_turn I P)) q ∙ same_count u x in
      answer I P w n (omega arith)
      ∙ ap (λ c. record { progress = c; made = n; state = state_after I P n }) (progress-stops I P w e (omega arith) ∙ ap (λ t. stopped (fault_at I P t) t) q)

  -- it ends where there is no next
  pub walk_ends : (w : ℕ) → ((u : ℕ) → from ≤ u → is_turn I P u ≡ true → ⊥) → n ≤ w
      → watch I P w ≡ record { progress = ended (makespan I P); made = n; state = state_after I P n }
  walk_ends w none l =
      let e : found I P ≡ false = split (found I P)
      (λ e. let f = first-faulty I W P C e in
      elim (dec_le from (first_faulty I P)) [
        | yes h ↦ absurd (none (first_faulty I P) h (first-turn I W P (first_faulty I P) f))
        | no h ↦ absurd (walked.clear (first_faulty I P) (omega arith) f.holds)
      ])
      (λ e. e) in
      let m : step_count I P ≡ n = counted e in
      answer I P w n (omega arith) ∙ ap (λ c. record { progress = c; made = n; state = state_after I P n }) (progress-ends I P w e (omega arith))
    where
      quiet : (k : ℕ) → from ≤ k → is_turn I P k ≡ false
      quiet k a = split (is_turn I P k) (λ e. absurd (none k a e)) (λ e. e)

      counted : found I P ≡ false → step_count I P ≡ n
      counted e =
          elim (dec_le from (first_faulty I P)) [
            | yes h ↦ count-is I P ∙ count-gap (is_turn I P) from (first_faulty I P) h (λ k a d. quiet k a) ∙ walked.steps
            | no h ↦ count-is I P ∙ sym (count-gap (is_turn I P) (first_faulty I P) from (omega arith) (λ k a d. past k a)) ∙ walked.steps
          ]
        where
          past : (k : ℕ) → first_faulty I P ≤ k → is_turn I P k ≡ false
          past k a = split (is_turn I P k) (λ y. absurd (omega (arith, turn-closes I W P C k y, ltb-false (first_faulty I P) (closing I P) e))) (λ y. y)
