-- Wrong programs that the promises refuse by themselves: a planner that refuses each sheet, a marker that has one refusal.
use Prim.Native.Nat.{ℕ, zero, suc, ◌≤◌}
use mathlib.Core.Bool.{Bool, true, false, ◌&&◌}
use mathlib.Core.List.{List, [], ◌∷◌}
use mathlib.Core.Logic.{◌⊎◌, inl, inr}
use mathlib.Core.Path.{◌≡◌, refl, ap, ◌∙◌}
use native.Mathlib.Omega.{arith}
use native.Mathlib.Nat.{le_refl}
use lib.ListN.{length, drop, replicate, length-replicate}
use lib.Dec.{T, eqb, eqb→eq}
use Rattle.rules.specs.Limits.{max_text}
use Rattle.rules.specs.Model.{Instance}
use Rattle.rules.specs.Validity.{Claim, Verdict, accepted_with, refused_by}
use Rattle.rules.specs.Scheduling.{aware, plain, Planner, heft, min_min, mem_heft, mem_min_min}
use Rattle.rules.specs.InstanceText.{accepted, read_instance}
use Rattle.rules.specs.Calls.{mark, fault_line, plan, Answer, overwritten}
use Rattle.rules.specs.Promises.{PlannedExactly, Fits}
use Rattle.rules.specs.CallsExact.{Marking}
use Rattle.rules.specs.Examples.{Row, plans, marks, same, holds, all_hold, sheet_a, table, examples}
use Rattle.rules.proofs.SheetLaws.{sheet_exact}
use Rattle.rules.proofs.PlannerLaws.{planner_exact, plans_short, read_back}
use Rattle.rules.proofs.CallsExactLaws.{mark_only}

-- ---- what a row of the examples says

and_left : (a b : Bool) → T (a && b) → T a
and_left true b t = tt
and_left false b t = t

and_right : (a b : Bool) → T (a && b) → T b
and_right true b t = t
and_right false b t = absurd t

row-holds : (r : Row) (rs : List Row) → T (all_hold (r ∷ rs)) → T (holds r)
unfolding all_hold
row-holds r rs t = and_left (holds r) (all_hold rs) t

rows-hold : (r : Row) (rs : List Row) → T (all_hold (r ∷ rs)) → T (all_hold rs)
unfolding all_hold
rows-hold r rs t = and_right (holds r) (all_hold rs) t

plans-number : (R : Planner) (room : ℕ) (sheet : List ℕ) (number place trials : ℕ) (text : List ℕ)
    → T (holds (plans R room sheet number place trials text)) → (plan R sheet (replicate room 7)).number ≡ number
unfolding holds
plans-number R room sheet number place trials text t =
    let lent = replicate {A = ℕ} room 7 in
    let a = plan R sheet lent in
    let n = eqb a.number number in
    let p = eqb a.place place in
    let c = eqb a.trials trials in
    eqb→eq a.number number (and_left n p (and_left (n && p) c (and_left (n && p && c) (same a.buffer (overwritten text lent)) t)))

marks-number : (sheet timetable : List ℕ) (w : Verdict) (line : List ℕ) → T (holds (marks sheet timetable w line)) → (mark sheet timetable).number ≡ w.number
unfolding holds
marks-number sheet timetable w line t =
    let v = mark sheet timetable in
    let n = eqb v.number w.number in
    let p = eqb v.place w.place in
    let s = eqb v.span w.span in
    let b = eqb v.blue_peak w.blue_peak in
    let r = eqb v.red_peak w.red_peak in
    let f = same (fault_line sheet timetable) line in
    eqb→eq v.number w.number
    (and_left n p (and_left (n && p) s (and_left (n && p && s) b (and_left (n && p && s && b) r (and_left (n && p && s && b && r) f t)))))

rows-from : (n : ℕ) (rs : List Row) → T (all_hold rs) → T (all_hold (drop n rs))
rows-from zero rs t = t
rows-from (suc n) [] t = t
rows-from (suc n) (r ∷ rs) t = rows-from n rs (rows-hold r rs t)

-- a, b: every planner succeeds on the course example
course-plans : (R : Planner) → (plan R sheet_a (replicate 200 7)).number ≡ 0
unfolding table sheet_a
course-plans (heft aware) = plans-number mem_heft 200 sheet_a 0 _ _ _ (row-holds _ _ examples)
course-plans (min_min aware) = plans-number mem_min_min 200 sheet_a 0 _ _ _ (row-holds _ _ (rows-from 1 table examples))
course-plans (heft plain) = plans-number (heft plain) 200 sheet_a 0 _ _ _ (row-holds _ _ (rows-from 15 table examples))
course-plans (min_min plain) = plans-number (min_min plain) 200 sheet_a 0 _ _ _ (row-holds _ _ (rows-from 16 table examples))

-- f, h: the marker refuses one paper by 17, another by 16
course-17 : (sheet timetable : List ℕ) × ((mark sheet timetable).number ≡ 17)
unfolding table
course-17 = (_, _, marks-number _ _ (refused_by 17 4) _ (row-holds _ _ (rows-from 7 table examples)))

course-16 : (sheet timetable : List ℕ) × ((mark sheet timetable).number ≡ 16)
unfolding table
course-16 = (_, _, marks-number _ _ (refused_by 16 2) _ (row-holds _ _ (rows-from 9 table examples)))

-- ---- a planner that refuses each sheet

pub course-accepted : (I : Instance) × (read_instance sheet_a ≡ accepted I)
course-accepted = let b = read_back mem_heft refl sheet_a (replicate 200 7) (course-plans mem_heft) in (b.job, b.sheet_accepted)

module _ (R : Planner) (I : Instance) (e : read_instance sheet_a ≡ accepted I) (buffer : List ℕ) (room : max_text ≤ length buffer) where
  course-fits : Fits R I buffer
  course-fits =
      let w = (planner_exact R sheet_a (replicate 200 7) I e).success.0 (course-plans R) in
      let W = ((sheet_exact sheet_a I).0 e).0 in
      let l = plans_short R I W w.schedule w.trials w.not_stuck in
      record { schedule = w.schedule; trials = w.trials; not_stuck = w.not_stuck; fits = omega arith }

  -- on the course example, with a buffer as long as a text may be, no answer but success is exact
  pub course-succeeds : (a : Answer) → PlannedExactly R I buffer a → a.number ≡ 0
  course-succeeds a p = p.success.1 course-fits

long-enough : (n : ℕ) → n ≤ length (replicate {A = ℕ} n 0)
long-enough n = rw (length-replicate {A = ℕ} n 0) (le_refl n)

-- so no program that never succeeds meets PlannerExact, whichever the planner
pub never-succeeds : (R : Planner) (answer : List ℕ → List ℕ → Answer) → ((sheet buffer : List ℕ) → (answer sheet buffer).number ≡ 0 → ⊥)
    → ((sheet buffer : List ℕ) (I : Instance) → read_instance sheet ≡ accepted I → PlannedExactly R I buffer (answer sheet buffer)) → ⊥
never-succeeds R answer never exact = on (replicate max_text 0) (long-enough max_text)
  where
    on : (buffer : List ℕ) → max_text ≤ length buffer → ⊥
    on buffer room =
        let (I, e) = course-accepted in
        never sheet_a buffer (course-succeeds R I e buffer room (answer sheet_a buffer) (exact sheet_a buffer I e))

-- ---- a marker that has one refusal

-- accepted, or refused by the one number and place
abbrev pub OneRefusal : ℕ → ℕ → Verdict → Type 0
OneRefusal n k v = ((c : Claim) × (v ≡ accepted_with c)) ⊎ (v ≡ refused_by n k)

one_number : (n k m : ℕ) (v : Verdict) → OneRefusal n k v → v.number ≡ suc m → n ≡ suc m
one_number n k m v (inl (c, e)) q = absurd (omega (arith, ap (λ (v : Verdict). v.number) e))
one_number n k m v (inr e) q = omega (arith, ap (λ (v : Verdict). v.number) e)

-- such a marker does not meet `Marking`: neither one that accepts all, nor one that accepts none, nor one that answers 14 at line 1 to whatever
-- it does not accept
pub one-refusal : (n k : ℕ) (answer : List ℕ → List ℕ → Verdict) → ((sheet timetable : List ℕ) → OneRefusal n k (answer sheet timetable))
    → ((sheet timetable : List ℕ) → Marking sheet timetable (answer sheet timetable)) → ⊥
one-refusal n k answer one exact =
    let (s, t, p) = course-17 in
    let (u, v, q) = course-16 in
    let x : n ≡ 17 = one_number n k 16 (answer s t) (one s t) (ap (λ (v : Verdict). v.number) (mark_only s t (answer s t) (exact s t)) ∙ p) in
    let y : n ≡ 16 = one_number n k 15 (answer u v) (one u v) (ap (λ (v : Verdict). v.number) (mark_only u v (answer u v) (exact u v)) ∙ q) in
    omega arith
