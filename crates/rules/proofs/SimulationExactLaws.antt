-- The simulator's ticks, text refusals and numbers in words: turn_law, text_exact, steps_capped, numbers_tell.
use Prim.Native.Nat.{ℕ, zero, suc, ◌+◌, ◌≤◌, ◌<◌, min}
use mathlib.Core.Bool.{true, false, ◌||◌}
use mathlib.Core.Path.{◌≡◌, refl, sym, ap, ◌∙◌}
use mathlib.Core.Logic.{◌⊎◌, inl, inr}
use mathlib.Core.List.{List}
use native.Mathlib.Omega.{arith}
use lib.Dec.{leb, ltb, eqb}
use borrow.Author.Tests.{ltb-true, ltb-false, lt-ltb, leb-true, leb-false, le-leb, lt-leb, eqb-true, eq-eqb}
use Rattle.rules.specs.Count.{any_below}
use Rattle.rules.specs.Limits.{max_steps}
use Rattle.rules.specs.Model.{Colour, blue, red, Instance, task_count, file_count, Schedule, start_at, move_at, moved}
use Rattle.rules.specs.Residency.{Hold, never, during, since, covers, hold_of, work_of}
use Rattle.rules.specs.Validity.{refused_by as refusal, judge, makespan}
use Rattle.rules.specs.Text.{Fault, Source, in_sheet, in_timetable, fault_number}
use Rattle.rules.specs.Calls.{mark}
use Rattle.rules.specs.Simulation.{turns, run_turns, task_turns, move_turns, file_turns, is_turn, fault_at, first_faulty, Progress, refused_by, steps_left, stopped, ended, number_of, place_of, Simulation, progress_of, watch, simulate, refused_text}
use Rattle.rules.specs.SimulationPromises.{is_fault, is_of_text, FaultOf, by15, by16, by17}
use Rattle.rules.specs.SimulationExact.{Begins, Ceases, Turn, run_starts, run_ends, move_starts, move_ends, hold_starts, hold_ends, work_starts, work_ends, TurnLaw, TextExact, StepsCapped, Told, NumbersTell}
use Rattle.rules.proofs.Tests.{clash, and-true, or_left, or_right, by-or, is_false, or_yes}
use Rattle.rules.proofs.CountLaws.{any_found}
use Rattle.rules.proofs.JudgeLaws.{judged}
use Rattle.rules.proofs.MarkerLaws.{mark-sheet, mark-timetable, mark-judges}
use Rattle.rules.proofs.TickFaultLaws.{fault-number, first-faulty}
use Rattle.rules.proofs.WatchLaws.{Ends, walks, stops, goes, ends, progress, watch-progress}
use Rattle.rules.proofs.WalkLaws.{run-turn, file-turn, start-turn, move-turn, hold-turn, work-turn}
use Rattle.rules.proofs.SimulatorLaws.{Texts, bad_sheet, bad_timetable, good, texts, simulate-sheet, simulate-timetable, simulate-read, judged-no-text, sheet-formed, read-spellable, text-number, fault-text, text-fault, text-zero}
use Rattle.rules.proofs.CompleteLaws.{spellable-complete}

-- ---- a hold that turns

begins-during : (a b t : ℕ) → a < b → a ≡ t → Begins (covers (during a b)) t
begins-during a b t l e = record {
  now = rw (le-leb a t (omega arith)) (lt-ltb t b (omega arith));
  earlier = λ u q. rw (lt-leb a u (omega arith));
}

ceases-during : (a b t : ℕ) → a < b → b ≡ t → Ceases (covers (during a b)) t
ceases-during a b zero l e = absurd (omega arith)
ceases-during a b (suc u) l e = record {
  last = u;
  next = refl;
  was = rw (le-leb a u (omega arith)) (lt-ltb u b (omega arith));
  gone = is_false _ (λ h. let x = and-true (leb a (suc u)) _ h in let y : suc u < b = ltb-true (suc u) b x.1 in omega arith);
}

turns-says : (h : Hold) (t : ℕ) → turns h t ≡ true → Begins (covers h) t ⊎ Ceases (covers h) t
turns-says never t e = clash e refl
turns-says (during a b) t e =
    let x = and-true (ltb a b) _ e in
    let l = ltb-true a b x.0 in
    by-or (eqb a t) (eqb b t) x.1 (λ q. inl (begins-during a b t l (eqb-true a t q))) (λ q. inr (ceases-during a b t l (eqb-true b t q)))
turns-says (since a) t e =
    let q = eqb-true a t e in
    inl (record { now = le-leb a t (omega arith); earlier = λ u p. lt-leb a u (omega arith) })

begins-turns : (h : Hold) (t : ℕ) → Begins (covers h) t → turns h t ≡ true
begins-turns never t b = clash b.now refl
begins-turns (during a e) zero b =
    let x = and-true (leb a 0) _ b.now in
    let l : a ≤ 0 = leb-true a 0 x.0 in
    let m : 0 < e = ltb-true 0 e x.1 in
    rw (lt-ltb a e (omega arith)) (or_left (eqb a 0) (eqb e 0) (eq-eqb a 0 (omega arith)))
begins-turns (during a e) (suc u) b =
    let x = and-true (leb a (suc u)) _ b.now in
    let l : a ≤ suc u = leb-true a (suc u) x.0 in
    let m : suc u < e = ltb-true (suc u) e x.1 in
    let f : leb a u ≡ false = is_false _ (λ h. clash (rw h (lt-ltb u e (omega arith))) (b.earlier u refl)) in
    let g : u < a = leb-false a u f in
    rw (lt-ltb a e (omega arith)) (or_left (eqb a (suc u)) (eqb e (suc u)) (eq-eqb a (suc u) (omega arith)))
begins-turns (since a) zero b = let l : a ≤ 0 = leb-true a 0 b.now in eq-eqb a 0 (omega arith)
begins-turns (since a) (suc u) b =
    let l : a ≤ suc u = leb-true a (suc u) b.now in
    let g : u < a = leb-false a u (b.earlier u refl) in
    eq-eqb a (suc u) (omega arith)

ceases-turns : (h : Hold) (t : ℕ) → Ceases (covers h) t → turns h t ≡ true
ceases-turns never t c = clash c.was refl
ceases-turns (during a e) t c =
    let n : suc c.last ≡ t = c.next in
    let x = and-true (leb a c.last) _ c.was in
    let l : a ≤ c.last = leb-true _ _ x.0 in
    let m : c.last < e = ltb-true _ _ x.1 in
    let f : ltb t e ≡ false = is_false _ (λ h. clash (rw (le-leb a t (omega arith)) h) c.gone) in
    let g : e ≤ t = ltb-false t e f in
    rw (lt-ltb a e (omega arith)) (or_right (eqb a t) (eqb e t) (eq-eqb e t (omega arith)))
ceases-turns (since a) t c =
    let n : suc c.last ≡ t = c.next in
    let l : a ≤ c.last = leb-true _ _ c.was in
    let g : t < a = leb-false a t c.gone in
    absurd (omega arith)

-- ---- a tick that turns

module _ (I : Instance) (P : Schedule) (t : ℕ) where
  hold-says : (c : Colour) (k : ℕ) → k < file_count I → turns (hold_of I P c k) t ≡ true → Turn I P t
  hold-says c k l e = elim (turns-says (hold_of I P c k) t e) [
    | inl b ↦ hold_starts c k l (record { now = b.now; earlier = b.earlier })
    | inr b ↦ hold_ends c k l (record { last = b.last; next = b.next; was = b.was; gone = b.gone })
  ]

  work-says : (c : Colour) (i : ℕ) → i < task_count I → turns (work_of I P c i) t ≡ true → Turn I P t
  work-says c i l e = elim (turns-says (work_of I P c i) t e) [
    | inl b ↦ work_starts c i l (record { now = b.now; earlier = b.earlier })
    | inr b ↦ work_ends c i l (record { last = b.last; next = b.next; was = b.was; gone = b.gone })
  ]

  run-says : (i : ℕ) → i < task_count I → run_turns I P t i ≡ true → Turn I P t
  run-says i l e = by-or (eqb (start_at P i) t) _ e (λ q. run_starts i l (eqb-true _ _ q)) (λ q. run_ends i l (eqb-true _ _ q))

  move-says : (k : ℕ) → k < file_count I → move_turns I P t k ≡ true → Turn I P t
  move-says k l e =
      let x = and-true (moved I P k) _ e in
      by-or (eqb (move_at P k) t) _ x.1 (λ q. move_starts k l x.0 (eqb-true _ _ q)) (λ q. move_ends k l x.0 (eqb-true _ _ q))

  task-says : (i : ℕ) → i < task_count I → task_turns I P t i ≡ true → Turn I P t
  task-says i l e =
      by-or (run_turns I P t i || turns (work_of I P blue i) t) _ e
      (λ a. by-or (run_turns I P t i) _ a (run-says i l) (work-says blue i l))
      (work-says red i l)

  file-says : (k : ℕ) → k < file_count I → file_turns I P t k ≡ true → Turn I P t
  file-says k l e =
      by-or (move_turns I P t k || turns (hold_of I P blue k) t) _ e
      (λ a. by-or (move_turns I P t k) _ a (move-says k l) (hold-says blue k l))
      (hold-says red k l)

  turn-says : is_turn I P t ≡ true → Turn I P t
  unfolding is_turn
  turn-says e = by-or (any_below (task_count I) (task_turns I P t)) _ e
      (λ a. let r = any_found (task_count I) (task_turns I P t) a in task-says r.0 r.1 r.2)
      (λ a. let r = any_found (file_count I) (file_turns I P t) a in file-says r.0 r.1 r.2)

  says-turn : Turn I P t → is_turn I P t ≡ true
  says-turn (run_starts i l q) = start-turn I P t i l q
  says-turn (run_ends i l q) = run-turn I P t i l (or_right (eqb (start_at P i) t) _ (eq-eqb _ _ q))
  says-turn (move_starts k l m q) = move-turn I P t k l m q
  says-turn (move_ends k l m q) =
      file-turn I P t k l
      (or_left (move_turns I P t k || turns (hold_of I P blue k) t) _
      (or_left (move_turns I P t k) _ (rw m (or_right (eqb (move_at P k) t) _ (eq-eqb _ _ q)))))
  says-turn (hold_starts c k l b) = hold-turn I P t c k l (begins-turns (hold_of I P c k) t (record { now = b.now; earlier = b.earlier }))
  says-turn (hold_ends c k l b) =
      hold-turn I P t c k l (ceases-turns (hold_of I P c k) t (record { last = b.last; next = b.next; was = b.was; gone = b.gone }))
  says-turn (work_starts c i l b) = work-turn I P t c i l (begins-turns (work_of I P c i) t (record { now = b.now; earlier = b.earlier }))
  says-turn (work_ends c i l b) =
      work-turn I P t c i l (ceases-turns (work_of I P c i) t (record { last = b.last; next = b.next; was = b.was; gone = b.gone }))

pub turn_law : TurnLaw
turn_law I P t = (turn-says I P t, says-turn I P t)

-- ---- text refusals

no-refusal : (I : Instance) (P : Schedule) {w n k : ℕ} {p : Progress} → Ends I P w p → p ≡ refused_by n k → ⊥
no-refusal I P (walks a b) q = let z : ◌≡◌ {A = ℕ} 0 1 = cc in omega arith
no-refusal I P (stops a b) q = let z : ◌≡◌ {A = ℕ} 0 1 = cc in omega arith
no-refusal I P (goes a b) q = let z : ◌≡◌ {A = ℕ} 0 1 = cc in omega arith
no-refusal I P (ends a b) q = let z : ◌≡◌ {A = ℕ} 0 1 = cc in omega arith

module _ (sheet timetable : List ℕ) (made steps number place : ℕ) where
  text-case : (s : Source) (w : Fault) (k : ℕ) → mark sheet timetable ≡ refusal (fault_number s w) k → simulate sheet timetable made steps ≡ refused_text (fault_number s w) k
      → (((simulate sheet timetable made steps).progress ≡ refused_by number place) → ((mark sheet timetable ≡ refusal number place) × (is_of_text number ≡ true)))
      × (((mark sheet timetable ≡ refusal number place) × (is_of_text number ≡ true)) → ((simulate sheet timetable made steps).progress ≡ refused_by number place))
  text-case s w k m e = (
    (λ h.
        let q : refused_by (fault_number s w) k ≡ refused_by number place = sym (ap (λ a. a.progress) e) ∙ h in
        let a : fault_number s w ≡ number = ap number_of q in
        let b : k ≡ place = ap place_of q in
        (m ∙ (λ i. refusal (a i) (b i)), ap is_of_text (sym a) ∙ text-number s w)),
    (λ h.
        let q : refusal (fault_number s w) k ≡ refusal number place = sym m ∙ h.0 in
        let a : fault_number s w ≡ number = ap (λ v. v.number) q in
        let b : k ≡ place = ap (λ v. v.place) q in
        ap (λ a. a.progress) e ∙ (λ i. refused_by (a i) (b i))),
  )

pub text_exact : TextExact
text_exact sheet timetable made steps number place = go (texts sheet timetable)
  where
    go : Texts sheet timetable
        → (((simulate sheet timetable made steps).progress ≡ refused_by number place) → ((mark sheet timetable ≡ refusal number place) × (is_of_text number ≡ true)))
        × (((mark sheet timetable ≡ refusal number place) × (is_of_text number ≡ true)) → ((simulate sheet timetable made steps).progress ≡ refused_by number place))
    go (bad_sheet w k e) = text-case sheet timetable made steps number place in_sheet w k (mark-sheet sheet timetable w k e) (simulate-sheet sheet timetable w k e made steps)
    go (bad_timetable I w k e f) =
        text-case sheet timetable made steps number place in_timetable w k (mark-timetable sheet timetable I w k e f) (simulate-timetable sheet timetable I w k e f made steps)
    go (good I P c e f) = (
      (λ h.
          let q : progress_of I P (made + min steps max_steps) ≡ refused_by number place =
          sym (ap (λ a. a.progress) (simulate-read sheet timetable I P c e f made steps) ∙ watch-progress I P _) ∙ h in
          absurd (no-refusal I P (progress I P (made + min steps max_steps)) q)),
      (λ h.
          let q : judge I P c ≡ refusal number place = sym (mark-judges sheet timetable I P c e f) ∙ h.0 in
          let n : (judge I P c).number ≡ number = ap (λ v. v.number) q in
          clash h.1 (ap is_of_text (sym n) ∙ judged-no-text I P c (judged I P c))),
    )

pub steps_capped : StepsCapped
steps_capped sheet timetable made steps = go (texts sheet timetable)
  where
    go : Texts sheet timetable → simulate sheet timetable made steps ≡ simulate sheet timetable made (min steps max_steps)
    go (bad_sheet w k e) = simulate-sheet sheet timetable w k e made steps ∙ sym (simulate-sheet sheet timetable w k e made (min steps max_steps))
    go (bad_timetable I w k e f) = simulate-timetable sheet timetable I w k e f made steps ∙ sym (simulate-timetable sheet timetable I w k e f made (min steps max_steps))
    go (good I P c e f) =
        let q : made + min steps max_steps ≡ made + min (min steps max_steps) max_steps = omega arith in
        simulate-read sheet timetable I P c e f made steps ∙ ap (watch I P) q ∙ sym (simulate-read sheet timetable I P c e f made (min steps max_steps))

-- ---- the numbers of an answer

-- the numbers of each ending
data Ending (a : Simulation) : Type 0 where
  refusing : (s : Source) (w : Fault) (k : ℕ) → a ≡ refused_text (fault_number s w) k → Ending a
  leaving : a.progress ≡ steps_left → Ending a
  stopping : (number t : ℕ) → is_fault number ≡ true → a.progress ≡ stopped number t → Ending a
  ending : (span : ℕ) → a.progress ≡ ended span → Ending a

number-fault : (I : Instance) (P : Schedule) (t : ℕ) {n : ℕ} → FaultOf I P t n → is_fault n ≡ true
number-fault I P t (by15 x) = refl
number-fault I P t (by16 x y) = refl
number-fault I P t (by17 x y z) = refl

ending_of : (sheet timetable : List ℕ) (made steps : ℕ) → Ending (simulate sheet timetable made steps)
ending_of sheet timetable made steps = go (texts sheet timetable)
  where
    go : Texts sheet timetable → Ending (simulate sheet timetable made steps)
    go (bad_sheet w k e) = refusing in_sheet w k (simulate-sheet sheet timetable w k e made steps)
    go (bad_timetable I w k e f) = refusing in_timetable w k (simulate-timetable sheet timetable I w k e f made steps)
    go (good I P c e f) = by (progress I P (made + min steps max_steps))
        (ap (λ a. a.progress) (simulate-read sheet timetable I P c e f made steps) ∙ watch-progress I P (made + min steps max_steps))
      where
        by : {p : Progress} → Ends I P (made + min steps max_steps) p → (simulate sheet timetable made steps).progress ≡ p → Ending (simulate sheet timetable made steps)
        by (walks a b) q = leaving q
        by (goes a b) q = leaving q
        by (ends a b) q = ending (makespan I P) q
        by (stops a b) q =
            let W = sheet-formed sheet timetable I P c e f in
            let C = spellable-complete I P c (read-spellable sheet timetable I P c e f) in
            let f = (first-faulty I W P C a).holds in
            stopping (fault_at I P (first_faulty I P)) (first_faulty I P) (rw (fault-number I P (first_faulty I P) f.fault) (number-fault I P (first_faulty I P) f.fault)) q

fault-positive : (n : ℕ) → is_fault n ≡ true → 15 ≤ n
fault-positive n f = leb-true 15 n (and-true (leb 15 n) _ f).0

told-refused : (s : Source) (w : Fault) (k : ℕ) → Told (refused_text (fault_number s w) k)
told-refused s w k = record {
  listed = rw (text-number s w);
  refuses = λ h. refl;
  stops = λ h. clash h (text-fault s w);
  goes_on = λ z l. clash (eq-eqb _ _ z) (text-zero s w);
  ends = λ z l. clash (eq-eqb _ _ z) (text-zero s w);
}

module _ (a : Simulation) where
  told-left : a.progress ≡ steps_left → Told a
  told-left q = record {
    listed = rw q;
    refuses = λ h. clash (rw q at h) refl;
    stops = λ h. clash (rw q at h) refl;
    goes_on = λ z l. q;
    ends = λ z l. let m : ◌≡◌ {A = ℕ} 1 0 = rw q at l in absurd (omega arith);
  }

  told-stopped : (n t : ℕ) → is_fault n ≡ true → a.progress ≡ stopped n t → Told a
  told-stopped n t f q = record {
    listed = rw (q, f) (or_left (is_of_text n || true) (eqb n 0) (or_yes (is_of_text n)));
    refuses = λ h. absurd (fault-text n f (rw q at h));
    stops = λ h. rw q;
    goes_on = λ z l. let m : n ≡ 0 = rw q at z in absurd (omega (arith, fault-positive n f));
    ends = λ z l. let m : n ≡ 0 = rw q at z in absurd (omega (arith, fault-positive n f));
  }

  told-ended : (span : ℕ) → a.progress ≡ ended span → Told a
  told-ended span q = record {
    listed = rw q;
    refuses = λ h. clash (rw q at h) refl;
    stops = λ h. clash (rw q at h) refl;
    goes_on = λ z l. let m : ◌≡◌ {A = ℕ} 0 1 = rw q at l in absurd (omega arith);
    ends = λ z l. rw q;
  }

  told : Ending a → Told a
  told (refusing s w k e) = rw e (told-refused s w k)
  told (leaving q) = told-left q
  told (stopping n t f q) = told-stopped n t f q
  told (ending span q) = told-ended span q

pub numbers_tell : NumbersTell
numbers_tell sheet timetable made steps = told (simulate sheet timetable made steps) (ending_of sheet timetable made steps)
