-- The simulator's calls: beside the marker's verdict, and one after another.
use Prim.Native.Nat.{ℕ, zero, suc, ◌+◌, ◌≤◌, ◌<◌, min}
use mathlib.Core.Bool.{true, false, ◌&&◌}
use mathlib.Core.Path.{◌≡◌, refl, sym, ◌∙◌, ap}
use mathlib.Core.List.{List}
use native.Mathlib.Omega.{arith}
use native.Mathlib.Decide.{dec_le}
use lib.Dec.{leb, eqb}
use borrow.Author.Tests.{leb-true, eqb-true, eq-eqb}
use Rattle.rules.specs.Count.{count_where}
use Rattle.rules.specs.Limits.{max_steps}
use Rattle.rules.specs.Model.{Instance, Schedule}
use Rattle.rules.specs.Validity.{Complete, Claim, Verdict, refused_by as refusal, judge, makespan, true_claim}
use Rattle.rules.specs.Text.{Fault, too_long, malformed, out_of_range, undue, Source, in_sheet, in_timetable, fault_number}
use Rattle.rules.specs.InstanceText.{InstanceRead, refused, accepted, read_instance}
use Rattle.rules.specs.ScheduleText.{ScheduleRead, refused as refused_timetable, read, read_schedule}
use Rattle.rules.specs.Calls.{mark}
use Rattle.rules.specs.Promises.{WellFormed, Spellable, First}
use Rattle.rules.specs.Simulation.{is_turn, fault_at, first_faulty, step_count, state_after, refused_by, steps_left, stopped, ended, left_of, Simulation, progress_of, watch, refused_text, simulate_by, simulate}
use Rattle.rules.specs.SimulationPromises.{is_fault, is_of_text, Agrees, SimulatorAgrees, GoesOn, StaysLaw, NextTick, CappedLaw, LeftLaw, PastLaw, TextLaw, SimulatorLaw}
use Rattle.rules.proofs.Tests.{split, clash, is_false, and-true, by-or}
use Rattle.rules.proofs.WhereLaws.{count_yes, count-mono, count-least}
use Rattle.rules.proofs.JudgeLaws.{Judged, by15, by16, by17, by18, by0, judged}
use Rattle.rules.proofs.CompleteLaws.{spellable-complete}
use Rattle.rules.proofs.PlaceLaws.{first-unique}
use Rattle.rules.proofs.SheetLaws.{sheet_exact}
use Rattle.rules.proofs.TimetableLaws.{timetable-exact}
use Rattle.rules.proofs.MarkerLaws.{mark-sheet, mark-timetable, mark-judges}
use Rattle.rules.proofs.TickFaultLaws.{fault-number, judged-fault, judged-clean, judged-over, first-faulty, some-faulty}
use Rattle.rules.proofs.TickLaws.{step_bound}
use Rattle.rules.proofs.WatchLaws.{found, watch-progress, watch-made, watch-state, progress-stops, progress-ends, watch-left, watch-past, watch-late, few-steps, step_law}
use Rattle.rules.proofs.ProgressLaws.{progress_law}

-- ---- the two texts by cases

pub data Texts (sheet timetable : List ℕ) : Type 0 where
  bad_sheet : (w : Fault) (k : ℕ) → read_instance sheet ≡ refused w k → Texts sheet timetable
  bad_timetable : (I : Instance) (w : Fault) (k : ℕ) → read_instance sheet ≡ accepted I → read_schedule I timetable ≡ refused_timetable w k → Texts sheet timetable
  good : (I : Instance) (P : Schedule) (c : Claim) → read_instance sheet ≡ accepted I → read_schedule I timetable ≡ read P c → Texts sheet timetable

pub texts : (sheet timetable : List ℕ) → Texts sheet timetable
texts sheet timetable = go (read_instance sheet) refl
  where
    go : (r : InstanceRead) → read_instance sheet ≡ r → Texts sheet timetable
    go (refused w k) e = bad_sheet w k e
    go (accepted I) e = on (read_schedule I timetable) refl
      where
        on : (r : ScheduleRead) → read_schedule I timetable ≡ r → Texts sheet timetable
        on (refused_timetable w k) f = bad_timetable I w k e f
        on (read P c) f = good I P c e f

module _ (sheet timetable : List ℕ) where
  module _ (w : Fault) (k : ℕ) (e : read_instance sheet ≡ refused w k) where
    pub simulate-sheet : (made steps : ℕ) → simulate sheet timetable made steps ≡ refused_text (fault_number in_sheet w) k
    unfolding simulate_by
    simulate-sheet made steps = rw (e, simulate_by)

  module _ (I : Instance) (w : Fault) (k : ℕ) (e : read_instance sheet ≡ accepted I) (f : read_schedule I timetable ≡ refused_timetable w k) where
    pub simulate-timetable : (made steps : ℕ) → simulate sheet timetable made steps ≡ refused_text (fault_number in_timetable w) k
    unfolding simulate_by
    simulate-timetable made steps = rw (e, f, simulate_by)

  module _ (I : Instance) (P : Schedule) (c : Claim) (e : read_instance sheet ≡ accepted I) (f : read_schedule I timetable ≡ read P c) where
    pub simulate-read : (made steps : ℕ) → simulate sheet timetable made steps ≡ watch I P (made + min steps max_steps)
    unfolding simulate_by
    simulate-read made steps = rw (e, f, simulate_by)

    pub sheet-formed : WellFormed I
    sheet-formed = ((sheet_exact sheet I).0 e).0

    pub read-spellable : Spellable I P c
    read-spellable = ((timetable-exact I sheet-formed timetable P c).0 f).0

    steps-bound : step_count I P < max_steps
    steps-bound = omega (arith, few-steps I sheet-formed P c read-spellable)

-- ---- one call after another

goes_on-still : (I : Instance) (P : Schedule) (made steps more : ℕ) → step_count I P < max_steps → 1 ≤ more
    → watch I P (min (made + min steps max_steps) (step_count I P) + min more max_steps) ≡ watch I P (made + min (steps + more) max_steps)
goes_on-still I P made steps more few one =
    let n = step_count I P in
    let w = made + min steps max_steps in
    elim (dec_le w n) [
      | no h ↦ watch-late I P (min w n + min more max_steps) (made + min (steps + more) max_steps) (omega arith) (omega arith)
      | yes h ↦ elim (dec_le (steps + more) max_steps) [
        | yes l ↦
            let e : min w n + min more max_steps ≡ made + min (steps + more) max_steps = omega arith in
            ap (watch I P) e
        | no l ↦ watch-late I P (min w n + min more max_steps) (made + min (steps + more) max_steps) (omega arith) (omega arith)
      ]
    ]

pub goes_on : GoesOn
goes_on sheet timetable made steps more one = go (texts sheet timetable)
  where
    go : Texts sheet timetable → simulate sheet timetable (simulate sheet timetable made steps).made more ≡ simulate sheet timetable made (steps + more)
    go (bad_sheet w k e) = simulate-sheet sheet timetable w k e _ more ∙ sym (simulate-sheet sheet timetable w k e made (steps + more))
    go (bad_timetable I w k e f) = simulate-timetable sheet timetable I w k e f _ more ∙ sym (simulate-timetable sheet timetable I w k e f made (steps + more))
    go (good I P c e f) =
        let s = simulate-read sheet timetable I P c e f in
        let m : (simulate sheet timetable made steps).made ≡ min (made + min steps max_steps) (step_count I P) =
        ap (λ a. a.made) (s made steps) ∙ watch-made I P (made + min steps max_steps) in
        s (simulate sheet timetable made steps).made more
        ∙ ap (λ m. watch I P (m + min more max_steps)) m
        ∙ goes_on-still I P made steps more (steps-bound sheet timetable I P c e f) one
        ∙ sym (s made (steps + more))

module _ (sheet timetable : List ℕ) (made steps : ℕ) where
  -- the answer to a call, and to one that names its steps made and no more
  abbrev call : Simulation
  call = simulate sheet timetable made steps

  abbrev again : Simulation
  again = simulate sheet timetable call.made 0

  same_answer : again ≡ call → (again.made ≡ call.made) × (again.state ≡ call.state)
  same_answer e = (ap (λ a. a.made) e, ap (λ a. a.state) e)

  stays : Texts sheet timetable → (again.made ≡ call.made) × (again.state ≡ call.state)
  stays (bad_sheet w k e) = same_answer (simulate-sheet sheet timetable w k e call.made 0 ∙ sym (simulate-sheet sheet timetable w k e made steps))
  stays (bad_timetable I w k e f) =
      same_answer (simulate-timetable sheet timetable I w k e f call.made 0 ∙ sym (simulate-timetable sheet timetable I w k e f made steps))
  stays (good I P c e f) =
      let w = made + min steps max_steps in
      let v = call.made + min 0 max_steps in
      let p : call ≡ watch I P w = simulate-read sheet timetable I P c e f made steps in
      let q : again ≡ watch I P v = simulate-read sheet timetable I P c e f call.made 0 in
      let m : (watch I P v).made ≡ (watch I P w).made = omega (arith, watch-made I P v, watch-made I P w, ap (λ a. a.made) p) in (
        ap (λ a. a.made) q ∙ m ∙ sym (ap (λ a. a.made) p),
        ap (λ a. a.state) q ∙ watch-state I P v ∙ ap (state_after I P) m ∙ sym (watch-state I P w) ∙ sym (ap (λ a. a.state) p),
      )

pub stays_law : StaysLaw
stays_law sheet timetable made steps = stays sheet timetable made steps (texts sheet timetable)

module _ (I : Instance) (W : WellFormed I) (P : Schedule) (claim : Claim) (s : Spellable I P claim) where
  -- the steps made are those up to the time of the last
  made-ticks : (n : ℕ) → 0 < n → n ≤ step_count I P → count_where (suc (watch I P n).state.time) (is_turn I P) ≡ n
  made-ticks zero h l = absurd (omega arith)
  made-ticks (suc n) h l =
      let x = (step_law I W P claim s (suc n)).some n (omega (arith, watch-made I P (suc n))) in
      rw x.2.time (count_yes (is_turn I P) x.0 x.1.holds ∙ ap suc x.1.below)

  next-tick : (n : ℕ) → (watch I P (suc n)).made ≡ suc n
      → First (λ u. (is_turn I P u ≡ true) × (0 < n → (watch I P n).state.time < u)) (watch I P (suc n)).state.time
  next-tick n h =
      let x = (step_law I W P claim s (suc n)).some n h in
      let l : n ≤ step_count I P = omega (arith, watch-made I P (suc n)) in
      let b = x.1.below in
      rw x.2.time (record {
        holds = (x.1.holds, λ m. count-least (is_turn I P) (suc (watch I P n).state.time) x.0 x.1.holds (omega (arith, made-ticks n m l)));
        least = λ u y. count-least (is_turn I P) x.0 u y.0 (elim (dec_le 1 n) [
          | yes m ↦ omega (arith, made-ticks n m l, count-mono (is_turn I P) (suc (watch I P n).state.time) u (y.1 m))
          | no m ↦ omega arith
        ]);
      })

pub next_tick : NextTick
next_tick sheet timetable I P c e f made h =
    let s = simulate-read sheet timetable I P c e f in
    let p : simulate sheet timetable made 0 ≡ watch I P made = s made 0 ∙ ap (watch I P) (omega arith) in
    let q : simulate sheet timetable made 1 ≡ watch I P (suc made) = s made 1 ∙ ap (watch I P) (omega arith) in
    rw (p, q) (next-tick I (sheet-formed sheet timetable I P c e f) P c (read-spellable sheet timetable I P c e f) made (rw q at h))

-- so many steps made are past every stop and end
pub watch-capped : (I : Instance) → WellFormed I → (P : Schedule) (claim : Claim) → Spellable I P claim → (made steps : ℕ)
    → watch I P (made + min steps max_steps) ≡ watch I P (min made max_steps + min steps max_steps)
watch-capped I W P claim s made steps =
    let few = few-steps I W P claim s in
    elim (dec_le made max_steps) [
      | yes l ↦ let q : made + min steps max_steps ≡ min made max_steps + min steps max_steps = omega arith in ap (watch I P) q
      | no l ↦ watch-late I P (made + min steps max_steps) (min made max_steps + min steps max_steps) (omega arith) (omega arith)
    ]

pub capped_law : CappedLaw
capped_law sheet timetable made steps = go (texts sheet timetable)
  where
    go : Texts sheet timetable → simulate sheet timetable made steps ≡ simulate sheet timetable (min made max_steps) steps
    go (bad_sheet w k e) = simulate-sheet sheet timetable w k e made steps ∙ sym (simulate-sheet sheet timetable w k e (min made max_steps) steps)
    go (bad_timetable I w k e f) =
        simulate-timetable sheet timetable I w k e f made steps ∙ sym (simulate-timetable sheet timetable I w k e f (min made max_steps) steps)
    go (good I P c e f) =
        let s = simulate-read sheet timetable I P c e f in
        s made steps
        ∙ watch-capped I (sheet-formed sheet timetable I P c e f) P c (read-spellable sheet timetable I P c e f) made steps
        ∙ sym (s (min made max_steps) steps)

-- a refused text is not stepped through
bad-left : {R : Type 0} {a : Simulation} (number place : ℕ) → a ≡ refused_text number place → a.progress ≡ steps_left → R
bad-left number place e h =
    let q : refused_by number place ≡ steps_left = sym (ap (λ a. a.progress) e) ∙ h in
    let z : ◌≡◌ {A = ℕ} 0 1 = ap left_of q in
    absurd (omega arith)

pub left_law : LeftLaw
left_law sheet timetable made steps h = go (texts sheet timetable)
  where
    go : Texts sheet timetable → (simulate sheet timetable made steps).made ≡ made + min steps max_steps
    go (bad_sheet w k e) = bad-left (fault_number in_sheet w) k (simulate-sheet sheet timetable w k e made steps) h
    go (bad_timetable I w k e f) = bad-left (fault_number in_timetable w) k (simulate-timetable sheet timetable I w k e f made steps) h
    go (good I P c e f) =
        let s = simulate-read sheet timetable I P c e f made steps in
        ap (λ a. a.made) s ∙ watch-left I P (made + min steps max_steps) (sym (ap (λ a. a.progress) s) ∙ h)

pub past_law : PastLaw
past_law sheet timetable made steps made' steps' h l = go (texts sheet timetable)
  where
    go : Texts sheet timetable → simulate sheet timetable made' steps' ≡ simulate sheet timetable made steps
    go (bad_sheet w k e) = simulate-sheet sheet timetable w k e made' steps' ∙ sym (simulate-sheet sheet timetable w k e made steps)
    go (bad_timetable I w k e f) = simulate-timetable sheet timetable I w k e f made' steps' ∙ sym (simulate-timetable sheet timetable I w k e f made steps)
    go (good I P c e f) =
        let s = simulate-read sheet timetable I P c e f in
        let w = made + min steps max_steps in
        let q : left_of (progress_of I P w) ≡ 0 = sym (ap (λ a. left_of a.progress) (s made steps) ∙ ap left_of (watch-progress I P w)) ∙ h in
        s made' steps' ∙ watch-past I P w (made' + min steps' max_steps) q l ∙ sym (s made steps)

-- ---- beside the marker

pub text-number : (s : Source) (w : Fault) → is_of_text (fault_number s w) ≡ true
text-number in_sheet too_long = refl
text-number in_sheet malformed = refl
text-number in_sheet out_of_range = refl
text-number in_sheet undue = refl
text-number in_timetable too_long = refl
text-number in_timetable malformed = refl
text-number in_timetable out_of_range = refl
text-number in_timetable undue = refl

-- 15 to 17 are no numbers of a text
pub fault-text : (n : ℕ) → is_fault n ≡ true → is_of_text n ≡ true → ⊥
fault-text n f h =
    let l = leb-true 15 n (and-true (leb 15 n) _ f).0 in
    by-or (leb 1 n && leb n 4) _ h
    (λ x. omega (arith, leb-true n 4 (and-true (leb 1 n) _ x).1))
    (λ x. omega (arith, leb-true n 14 (and-true (leb 11 n) _ x).1))

pub text-fault : (s : Source) (w : Fault) → is_fault (fault_number s w) ≡ false
text-fault s w = is_false _ (λ h. fault-text (fault_number s w) h (text-number s w))

pub text-zero : (s : Source) (w : Fault) → eqb (fault_number s w) 0 ≡ false
text-zero s w = is_false _ (λ h. let z : is_of_text 0 ≡ true = rw (eqb-true (fault_number s w) 0 h) at (text-number s w) in clash z refl)

not_stopped : {R : Type 0} {number place n t : ℕ} → refused_by number place ≡ stopped n t → R
not_stopped e = let z : ◌≡◌ {A = ℕ} 0 1 = cc in absurd (omega arith)

text-agrees : (sheet timetable : List ℕ) (s : Source) (w : Fault) (k : ℕ)
    → ((I : Instance) (P : Schedule) (claim : Claim) → read_instance sheet ≡ accepted I → read_schedule I timetable ≡ read P claim → ⊥)
    → Agrees sheet timetable (refusal (fault_number s w) k) (refused_by (fault_number s w) k)
text-agrees sheet timetable s w k unread = record {
  of_fault = ((λ h. clash h (text-fault s w)), (λ x. not_stopped x.2));
  of_end = λ I P claim e f h. absurd (unread I P claim e f);
  of_span = λ h. clash (eq-eqb _ _ h) (text-zero s w);
  of17 = λ h. clash (ap is_fault h) (text-fault s w);
}

-- a judgement of number 0 has the true span
span-true : (I : Instance) (P : Schedule) (c : Claim) {v : Verdict} → Judged I P c v → v.number ≡ 0 → makespan I P ≡ v.span
unfolding true_claim
span-true I P c (by15 i f) h = absurd (omega arith)
span-true I P c (by16 j a f) h = absurd (omega arith)
span-true I P c (by17 t a b f) h = absurd (omega arith)
span-true I P c (by18 a b d x) h = absurd (omega arith)
span-true I P c (by0 p) h =
    let t = true_claim I P in
    let x = and-true (eqb c.span t.span && eqb c.blue_peak t.blue_peak) _ p.claimed in
    sym (eqb-true _ _ (and-true (eqb c.span t.span) _ x.0).0)

judged-zero : (I : Instance) (P : Schedule) (c : Claim) {v : Verdict} → Judged I P c v → v.number ≡ 0 → is_fault v.number ≡ false
judged-zero I P c j h = rw h

module _ (I : Instance) (W : WellFormed I) (P : Schedule) (c : Claim) (s : Spellable I P c) (w : ℕ) (enough : step_count I P < w) where
  abbrev C : Complete I P
  C = spellable-complete I P c s

  fault-stops : is_fault (judge I P c).number ≡ true → (number tick : ℕ) × (progress_of I P w ≡ stopped number tick)
  fault-stops h =
      let r = judged-fault I W P C c (judged I P c) h in
      (_, _, progress-stops I P w (some-faulty I W P C r.0 r.1) enough)

  clean-ends : is_fault (judge I P c).number ≡ false → progress_of I P w ≡ ended (makespan I P)
  clean-ends h = split (found I P)
      (λ e. absurd (judged-clean I W P C c (judged I P c) h _ (first-faulty I W P C e).holds))
      (λ e. progress-ends I P w e (omega arith))

  over-stops : (judge I P c).number ≡ 17 → progress_of I P w ≡ stopped 17 (judge I P c).place
  over-stops h =
      let x = judged-over I W P C c (judged I P c) h in
      let e = some-faulty I W P C (judge I P c).place x.0.holds in
      let a : first_faulty I P ≡ (judge I P c).place = first-unique (first-faulty I W P C e) x.0 in
      let b : fault_at I P (first_faulty I P) ≡ 17 = ap (fault_at I P) a ∙ fault-number I P (judge I P c).place x.1 in
      progress-stops I P w e enough ∙ (λ i. stopped (b i) (a i))

  stops-fault : (number tick : ℕ) → progress_of I P w ≡ stopped number tick → is_fault (judge I P c).number ≡ true
  stops-fault number tick q = split (is_fault (judge I P c).number)
      (λ h. h)
      (λ h. let x : ended (makespan I P) ≡ stopped number tick = sym (clean-ends h) ∙ q in let z : ◌≡◌ {A = ℕ} 0 1 = cc in absurd (omega arith))

module _ (sheet timetable : List ℕ) (I : Instance) (P : Schedule) (c : Claim) (e : read_instance sheet ≡ accepted I) (f : read_schedule I timetable ≡ read P c) where
  same_span : (J : Instance) (Q : Schedule) (d : Claim) → read_instance sheet ≡ accepted J → read_schedule J timetable ≡ read Q d → makespan I P ≡ makespan J Q
  same_span J Q d a b =
      let i : J ≡ I = cc in
      let b' : read_schedule I timetable ≡ read Q d = rw i at b in
      let q : Q ≡ P = cc in
      sym (rw (i, q))

  read-agrees : (w : ℕ) → step_count I P < w → Agrees sheet timetable (judge I P c) (progress_of I P w)
  read-agrees w enough =
      let W = sheet-formed sheet timetable I P c e f in
      let s = read-spellable sheet timetable I P c e f in
      record {
        of_fault = (fault-stops I W P c s w enough, λ x. stops-fault I W P c s w enough x.0 x.1 x.2);
        of_end = λ J Q d a b h. clean-ends I W P c s w enough h ∙ ap ended (same_span J Q d a b);
        of_span = λ h. clean-ends I W P c s w enough (judged-zero I P c (judged I P c) h) ∙ ap ended (span-true I P c (judged I P c) h);
        of17 = over-stops I W P c s w enough;
      }

pub simulator_agrees : SimulatorAgrees
simulator_agrees sheet timetable made steps enough = go (texts sheet timetable)
  where
    go : Texts sheet timetable → Agrees sheet timetable (mark sheet timetable) (simulate sheet timetable made steps).progress
    go (bad_sheet w k e) =
        rw (mark-sheet sheet timetable w k e, simulate-sheet sheet timetable w k e made steps)
        (text-agrees sheet timetable in_sheet w k (λ I P claim a b. let z : ◌≡◌ {A = ℕ} 0 1 = cc in omega arith))
    go (bad_timetable I w k e f) =
        rw (mark-timetable sheet timetable I w k e f, simulate-timetable sheet timetable I w k e f made steps)
        (text-agrees sheet timetable in_timetable w k (λ J P claim a b.
        let i : J ≡ I = cc in
        let b' : read_schedule I timetable ≡ read P claim = rw i at b in
        let z : ◌≡◌ {A = ℕ} 0 1 = cc in omega arith))
    go (good I P c e f) =
        let w = made + min steps max_steps in
        let few = steps-bound sheet timetable I P c e f in
        rw (mark-judges sheet timetable I P c e f, simulate-read sheet timetable I P c e f made steps, watch-progress I P w)
        (read-agrees sheet timetable I P c e f w (omega arith))

-- ---- text refusals

-- a judgement has no number of a text
pub judged-no-text : (I : Instance) (P : Schedule) (c : Claim) {v : Verdict} → Judged I P c v → is_of_text v.number ≡ false
judged-no-text I P c (by15 i f) = refl
judged-no-text I P c (by16 j a f) = refl
judged-no-text I P c (by17 t a b f) = refl
judged-no-text I P c (by18 a b d x) = refl
judged-no-text I P c (by0 p) = refl

pub text_law : TextLaw
text_law sheet timetable made steps h = go (texts sheet timetable)
  where
    go : Texts sheet timetable → simulate sheet timetable made steps ≡ refused_text (mark sheet timetable).number (mark sheet timetable).place
    go (bad_sheet w k e) = rw (mark-sheet sheet timetable w k e) (simulate-sheet sheet timetable w k e made steps)
    go (bad_timetable I w k e f) = rw (mark-timetable sheet timetable I w k e f) (simulate-timetable sheet timetable I w k e f made steps)
    go (good I P c e f) = clash h (rw (mark-judges sheet timetable I P c e f) (judged-no-text I P c (judged I P c)))

-- ---- all of it

pub simulator_law : SimulatorLaw
simulator_law sheet timetable made steps = record {
  stepped = λ I P c e f.
      let s = simulate-read sheet timetable I P c e f made steps in
      rw s (step_law I (sheet-formed sheet timetable I P c e f) P c (read-spellable sheet timetable I P c e f) (made + min steps max_steps));
  progress = λ I P c e f.
      let s = simulate-read sheet timetable I P c e f made steps in
      rw s (progress_law I (sheet-formed sheet timetable I P c e f) P c (read-spellable sheet timetable I P c e f) (made + min steps max_steps));
  bounded = λ I P c e f. step_bound I (sheet-formed sheet timetable I P c e f) P c (read-spellable sheet timetable I P c e f);
  of_text = text_law sheet timetable made steps;
  agrees = simulator_agrees sheet timetable made steps;
}
