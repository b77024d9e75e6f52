-- Order 6, sheets without W: marks_before_work, changed_for_work, plans_before_work, simulations_before_work, without_work, reads_no_work, reads_older, same_older.
use Prim.Native.Nat.{ℕ, zero, suc, ◌-◌, pred}
use mathlib.Core.Bool.{Bool, true, ◌&&◌}
use mathlib.Core.Path.{◌≡◌, refl, sym, ap, subst, ◌∙◌}
use mathlib.Core.Logic.{◌⊎◌, inl, inr}
use mathlib.Core.List.{List, [], ◌∷◌}
use mathlib.Core.Option.{Option, none, some}
use native.Mathlib.Omega.{arith}
use lib.Dec.{leb, eqb}
use lib.ListN.{length, get_or, drop, get_or-append}
use lib.Seq.{get_or_at}
use Rattle.rules.specs.Limits.{max_text, max_digits, task_numbers, processor_counts, memory_limits, run_times, move_times, file_sizes, work_sizes, current, before_work}
use Rattle.rules.specs.Model.{Task, Instance, task_count, work_at, NoWork, file_at, file_count, Schedule, moved}
use Rattle.rules.specs.Validity.{Claim}
use Rattle.rules.specs.Text.{Fault, malformed, Line, ended, unended, lines_of, scan_by, scan, fill, Reading, wrong, right, if_in_range, due}
use Rattle.rules.specs.InstanceText.{board_form, task_form, work_form, file_form, InstanceLine, board_line, task_line, file_line, as_board, as_task, as_work, as_file}
use Rattle.rules.specs.InstanceText.{instance_line_by, instance_line, file_allowed, with_task, with_file, with_board, with_line, InstanceRead, refused, accepted}
use Rattle.rules.specs.InstanceText.{read_rest_by, read_lines_by, read_instance_by}
use Rattle.rules.specs.ScheduleText.{ScheduleLine, schedule_line_by, run_of, move_of, claim_of, read_end_by, read_claim_by, with_move, read_moves_by, with_run}
use Rattle.rules.specs.ScheduleText.{read_runs_by, read_schedule_by}
use Rattle.rules.specs.Calls.{mark_by, plan_by}
use Rattle.rules.specs.Simulation.{simulate_by}
use Rattle.rules.specs.FinerTicks.{line_behind}
use Rattle.rules.specs.WorkingMemory.{HasWork, RefusedForWork, MarksBeforeWork, ChangedForWork, PlansBeforeWork, SimulationsBeforeWork, WithoutWork}
use Rattle.rules.specs.WorkingMemory.{ReadsNoWork, ReadsOlder, SameOlder}
use Rattle.rules.proofs.Tests.{split, by_order}
use Rattle.rules.proofs.FormLaws.{scan-only, none-some}
use Rattle.rules.proofs.ReadingLaws.{by-reading, ranged-right, or-else, wrong-right, due-right, all_snoc, tested-4}
use Rattle.rules.proofs.WorkLaws.{no-task}
use Rattle.rules.proofs.InstanceLineLaws.{no-task-work, no-board-work}
use Rattle.rules.proofs.KeptLaws.{line-behind, lines-behind}
use Rattle.rules.proofs.ChangedLaws.{in_three, in_four, malformed-undue, sheet-formed, marked-sheet}

-- ---- a line by the reader that does not know the form with W: as it is read now, or none of the forms

no-file-work : (vs : List ℕ) → scan file_form (fill work_form vs) ≡ none
unfolding scan_by fill
no-file-work vs = refl

data KeptLine (l : Line) {A : Type 0} (x y : Reading A) : Type 0 where
  unknown : x ≡ wrong malformed → HasWork l → KeptLine l x y
  known : x ≡ y → KeptLine l x y

due-before : (l : Line) {A B : Type 0} (f : A → Option B) {x y : Reading A} → KeptLine l x y → KeptLine l (due f x) (due f y)
due-before l f (unknown e h) = unknown (ap (due f) e) h
due-before l f (known e) = known (ap (due f) e)

other-forms : (l vs : List ℕ) → scan work_form l ≡ some vs → (scan board_form l ≡ none) × (scan task_form l ≡ none) × (scan file_form l ≡ none)
other-forms l vs e =
    let f = scan-only max_digits (omega arith) work_form l vs e in
    rw f.line (no-board-work vs, no-task-work vs (omega (arith, f.count)) f.numerals, no-file-work vs)

line_before : (l : Line) → KeptLine l (instance_line_by before_work l) (instance_line l)
unfolding instance_line_by
line_before (unended l) = known refl
line_before (ended l) = go (scan work_form l) refl
  where
    go : (o : Option (List ℕ)) → scan work_form l ≡ o → KeptLine (ended l) (instance_line_by before_work (ended l)) (instance_line (ended l))
    go none e = known (rw e)
    go (some vs) e = let (b, t, f) = other-forms l vs e in unknown (rw (b, t, f)) (record { bytes = l; is_ended = refl; numbers = vs; has_form = e })

-- ---- a board sheet

data KeptSheet (bs : List ℕ) (x y : InstanceRead) : Type 0 where
  line_unknown : (n : ℕ) → x ≡ refused malformed (suc n) → HasWork (line_behind bs n) → KeptSheet bs x y
  as_now : x ≡ y → KeptSheet bs x y

module _ (bs : List ℕ) where
  rest-before : (ls : List Line) (I : Instance) (at : ℕ) → drop at (lines_of bs) ≡ ls
      → KeptSheet bs (read_rest_by before_work I (suc at) ls) (read_rest_by current I (suc at) ls)
  unfolding read_rest_by
  rest-before [] I at e = as_now refl
  rest-before (l ∷ ls) I at e = elim (due-before l (with_line I) (line_before l)) [
    | unknown q h ↦ line_unknown at (rw (q, read_rest_by)) (subst HasWork (line-behind bs at l ls e) h)
    | known q ↦
        by-reading (due (with_line I) (instance_line_by before_work l))
        (λ w d. as_now (rw (d, sym q ∙ d, read_rest_by)))
        (λ J d. rw (d, sym q ∙ d, read_rest_by) (rest-before ls J (suc at) (lines-behind bs at l ls e)))
  ]

  lines-before : (ls : List Line) → lines_of bs ≡ ls → KeptSheet bs (read_lines_by before_work ls) (read_lines_by current ls)
  unfolding read_lines_by
  lines-before [] e = as_now refl
  lines-before (l ∷ ls) e = elim (due-before l with_board (line_before l)) [
    | unknown q h ↦ line_unknown 0 (rw (q, read_lines_by)) (subst HasWork (line-behind bs 0 l ls e) h)
    | known q ↦
        by-reading (due with_board (instance_line_by before_work l))
        (λ w d. as_now (rw (d, sym q ∙ d, read_lines_by)))
        (λ J d. rw (d, sym q ∙ d, read_lines_by) (rest-before ls J 1 (lines-behind bs 0 l ls e)))
  ]

  sheet-before : KeptSheet bs (read_instance_by before_work bs) (read_instance_by current bs)
  unfolding read_instance_by
  sheet-before = split (leb (length bs) max_text)
      (λ s. rw (s, read_instance_by) (lines-before (lines_of bs) refl))
      (λ s. rw (s, read_instance_by) (as_now refl))

-- ---- a timetable is read as it was

module _ (I : Instance) where
  paper-line-before : (l : Line) → schedule_line_by before_work I l ≡ schedule_line_by current I l
  unfolding schedule_line_by
  paper-line-before (ended l) = refl
  paper-line-before (unended l) = refl

  end_before : (ls : List Line) (P : Schedule) (c : Claim) (k : ℕ) → read_end_by before_work I P c k ls ≡ read_end_by current I P c k ls
  unfolding read_end_by
  end_before [] P c k = refl
  end_before (l ∷ ls) P c k = rw (paper-line-before l)

  claim-before : (ls : List Line) (P : Schedule) (k : ℕ) → read_claim_by before_work I P k ls ≡ read_claim_by current I P k ls
  unfolding read_claim_by
  claim-before [] P k = refl
  claim-before (l ∷ ls) P k =
      let q = ap (due claim_of) (paper-line-before l) in
      by-reading (due claim_of (schedule_line_by before_work I l))
      (λ w d. rw (d, sym q ∙ d, read_claim_by))
      (λ c d. rw (d, sym q ∙ d, read_claim_by) (end_before ls P c (suc k)))

  module _ (left : ℕ) (P : Schedule) (k : ℕ) (m : moved I P (file_count I - suc left) ≡ true) where
    abbrev move-due : ScheduleLine → Option ℕ
    move-due = move_of (suc (file_at I (file_count I - suc left)).maker) (suc (file_at I (file_count I - suc left)).reader)

    move-before : (ls : List Line)
        → ((t : ℕ) (rest : List Line) → read_moves_by before_work I left (with_move P t) (suc k) rest ≡ read_moves_by current I left (with_move P t) (suc k) rest)
        → read_moves_by before_work I (suc left) P k ls ≡ read_moves_by current I (suc left) P k ls
    unfolding read_moves_by
    move-before [] ih = rw (m, read_moves_by)
    move-before (l ∷ ls) ih =
        let q = ap (due move-due) (paper-line-before l) in
        by-reading (due move-due (schedule_line_by before_work I l))
        (λ w d. rw (m, d, sym q ∙ d, read_moves_by))
        (λ t d. rw (m, d, sym q ∙ d, read_moves_by) (ih t ls))

  moves_before : (left : ℕ) (ls : List Line) (P : Schedule) (k : ℕ) → read_moves_by before_work I left P k ls ≡ read_moves_by current I left P k ls
  unfolding read_moves_by
  moves_before zero ls P k = claim-before ls P k
  moves_before (suc left) ls P k = split (moved I P (file_count I - suc left))
      (λ m. move-before left P k m ls (λ t rest. moves_before left rest (with_move P t) (suc k)))
      (λ m. rw (m, read_moves_by) (moves_before left ls (with_move P 0) k))

  runs-before : (left : ℕ) (ls : List Line) (P : Schedule) (k : ℕ) → read_runs_by before_work I left P k ls ≡ read_runs_by current I left P k ls
  unfolding read_runs_by
  runs-before zero ls P k = moves_before (file_count I) ls P k
  runs-before (suc left) [] P k = refl
  runs-before (suc left) (l ∷ ls) P k =
      let q = ap (due (run_of (suc (task_count I - suc left)))) (paper-line-before l) in
      by-reading (due (run_of (suc (task_count I - suc left))) (schedule_line_by before_work I l))
      (λ w d. rw (d, sym q ∙ d, read_runs_by))
      (λ r d. rw (d, sym q ∙ d, read_runs_by) (runs-before left ls (with_run P r) (suc k)))

  paper-before : (bs : List ℕ) → read_schedule_by before_work I bs ≡ read_schedule_by current I bs
  unfolding read_schedule_by
  paper-before bs = split (leb (length bs) max_text)
      (λ s. rw (s, read_schedule_by) (runs-before (task_count I) (lines_of bs) (record { runs = []; moves = [] }) 1))
      (λ s. rw (s, read_schedule_by))

-- ---- the calls

module _ (sheet timetable : List ℕ) where
  data ReadBefore : Type 0 where
    for_work : (n : ℕ) → read_instance_by before_work sheet ≡ refused malformed (suc n) → HasWork (line_behind sheet n) → ReadBefore
    both_refuse : (w : Fault) (k : ℕ) → read_instance_by current sheet ≡ refused w k → read_instance_by before_work sheet ≡ refused w k → ReadBefore
    both_accept : (I : Instance) → read_instance_by current sheet ≡ accepted I → read_instance_by before_work sheet ≡ accepted I
        → read_schedule_by before_work I timetable ≡ read_schedule_by current I timetable → ReadBefore

  same-before : read_instance_by before_work sheet ≡ read_instance_by current sheet → (r : InstanceRead) → read_instance_by current sheet ≡ r → ReadBefore
  same-before q (refused w k) e = both_refuse w k e (q ∙ e)
  same-before q (accepted I) e = both_accept I e (q ∙ e) (paper-before I timetable)

  read-before : ReadBefore
  read-before = elim (sheet-before sheet) [
    | line_unknown n q h ↦ for_work n q h
    | as_now q ↦ same-before q (read_instance_by current sheet) refl
  ]

pub marks_before_work : MarksBeforeWork
unfolding mark_by
marks_before_work sheet timetable = elim (read-before sheet timetable) [
  | for_work n q h ↦ inr (record { line = n; has = h; refusal = rw (q, mark_by) })
  | both_refuse w k a b ↦ inl (rw (a, b, mark_by))
  | both_accept I a b q ↦ inl (rw (a, b, q, mark_by))
]

pub plans_before_work : PlansBeforeWork
unfolding plan_by
plans_before_work R sheet buffer = elim (sheet-before sheet) [
  | line_unknown n q h ↦ inr (record { line = n; has = h; refusal = rw (q, plan_by) })
  | as_now q ↦ inl (rw (q, plan_by))
]

pub simulations_before_work : SimulationsBeforeWork
unfolding simulate_by mark_by
simulations_before_work sheet timetable made steps = elim (read-before sheet timetable) [
  | for_work n q h ↦ inr (record { line = n; has = h; refusal = rw (q, mark_by) })
  | both_refuse w k a b ↦ inl (rw (a, b, simulate_by))
  | both_accept I a b q ↦ inl (rw (a, b, q, simulate_by))
]

-- no mark now refuses such a line by 2
pub changed_for_work : ChangedForWork
changed_for_work sheet timetable r e =
    let n = r.line in
    let q = r.has.is_ended in
    sheet-formed work_form r.has.bytes r.has.numbers (inr (inr (inl refl))) r.has.has_form
    (rw q at (marked-sheet n sheet timetable malformed malformed-undue (e ∙ r.refusal)))

-- where no line has the form
or-not : (sheet : List ℕ) → ((n : ℕ) → HasWork (line_behind sheet n) → ⊥) → {A : Type 0} {v : _} → A ⊎ RefusedForWork sheet v → A
or-not sheet free (inl a) = a
or-not sheet free (inr r) = absurd (free r.line r.has)

pub without_work : WithoutWork
without_work sheet free = record {
  marks = λ timetable. or-not sheet free (marks_before_work sheet timetable);
  plans = λ R buffer. or-not sheet free (plans_before_work R sheet buffer);
  simulations = λ timetable made steps. or-not sheet free (simulations_before_work sheet timetable made steps);
}

-- ---- what that reader reads has no W

-- a line without W
abbrev Idle : InstanceLine → Type 0
Idle (board_line b r) = Unit {0}
Idle (task_line i a) = a.work ≡ 0
Idle (file_line i j f c) = Unit {0}

ranged-idle : (ok : Bool) (a x : InstanceLine) → Idle a → if_in_range ok a ≡ right x → Idle x
ranged-idle ok a x h e = let (_, q) = ranged-right ok a x e in rw (← q) h

line-idle : (l : Line) (x : InstanceLine) → instance_line_by before_work l ≡ right x → Idle x
unfolding instance_line_by
line-idle (unended l) x e = wrong-right e
line-idle (ended l) x e =
    or-else board_form l as_board _ x (λ vs f. ranged-idle (in_four processor_counts memory_limits processor_counts memory_limits vs) _ x tt)
    (or-else {R = Idle x} task_form l as_task _ x (λ vs f. ranged-idle (in_three task_numbers run_times run_times vs) _ x refl)
    (or-else {R = Idle x} file_form l as_file _ x (λ vs f. ranged-idle (in_four task_numbers task_numbers file_sizes move_times vs) _ x tt) (λ q. wrong-right q))) e

task-idle : (I : Instance) (a : Task) → NoWork I → a.work ≡ 0 → NoWork (with_task I a)
task-idle I a n e i = by_order i (task_count (with_task I a))
    (λ l. all_snoc (λ j x. x.work ≡ 0) I.tasks a _ (λ j _. n j) e i l)
    (λ l. no-task (with_task I a) i l)

with-idle : (I J : Instance) → NoWork I → (x : InstanceLine) → Idle x → with_line I x ≡ some J → NoWork J
with-idle I J n (board_line b r) e q = none-some q
with-idle I J n (task_line i a) e q = split (eqb (file_count I) 0 && eqb i (suc (task_count I)))
    (λ t. let z : with_task I a ≡ J = cc (rw t at q) in rw (← z) (task-idle I a n e))
    (λ t. none-some (rw t at q))
with-idle I J n (file_line i j f c) e q = split (file_allowed I i j)
    (λ t. let z : with_file I (record { maker = pred i; reader = pred j; size = f; move_time = c }) ≡ J = cc (rw t at q) in rw (← z) n)
    (λ t. none-some (rw t at q))

rest-idle : (ls : List Line) (I : Instance) (k : ℕ) → NoWork I → (J : Instance) → read_rest_by before_work I k ls ≡ accepted J → NoWork J
unfolding read_rest_by
rest-idle [] I k n J e = split (eqb (task_count I) 0)
    (λ t. let z : ◌≡◌ {A = ℕ} 0 1 = cc (rw t at e) in absurd (omega arith))
    (λ t. let z : I ≡ J = cc (rw t at e) in rw (← z) n)
rest-idle (l ∷ ls) I k n J e = by-reading (due (with_line I) (instance_line_by before_work l))
    (λ w d. let z : ◌≡◌ {A = ℕ} 0 1 = cc (rw (d, read_rest_by) at e) in absurd (omega arith))
    (λ K d.
    let (x, q, t) = due-right (with_line I) K (instance_line_by before_work l) d in
    rest-idle ls K (suc k) (with-idle I K n x (line-idle l x q) t) J (rw (d, read_rest_by) at e))

board-idle : (x : InstanceLine) (I : Instance) → with_board x ≡ some I → NoWork I
board-idle (board_line b r) I e =
    let z : record { blue_side = b; red_side = r; tasks = []; files = [] } ≡ I = cc e in
    rw (← z) (λ i. no-task (record { blue_side = b; red_side = r; tasks = []; files = [] }) i (omega arith))
board-idle (task_line i a) I e = none-some e
board-idle (file_line i j f c) I e = none-some e

lines-idle : (ls : List Line) (J : Instance) → read_lines_by before_work ls ≡ accepted J → NoWork J
unfolding read_lines_by
lines-idle [] J e = let z : ◌≡◌ {A = ℕ} 0 1 = cc in absurd (omega arith)
lines-idle (l ∷ ls) J e = by-reading (due with_board (instance_line_by before_work l))
    (λ w d. let z : ◌≡◌ {A = ℕ} 0 1 = cc (rw (d, read_lines_by) at e) in absurd (omega arith))
    (λ K d.
    let (x, q, t) = due-right with_board K (instance_line_by before_work l) d in
    rest-idle ls K 2 (board-idle x K t) J (rw (d, read_lines_by) at e))

pub reads_no_work : ReadsNoWork
unfolding read_instance_by
reads_no_work sheet I e = split (leb (length sheet) max_text)
    (λ s. lines-idle (lines_of sheet) I (rw (s, read_instance_by) at e))
    (λ s. let z : ◌≡◌ {A = ℕ} 0 1 = cc (rw (s, read_instance_by) at e) in absurd (omega arith))

-- ---- and a job without W is read by that reader as it is now

-- what a line of the form with W says is not idle
work-line : (l vs : List ℕ) → scan work_form l ≡ some vs → (x : InstanceLine) → instance_line (ended l) ≡ right x → Idle x → ⊥
unfolding instance_line_by
work-line l vs e x q h =
    let (b, t, _) = other-forms l vs e in
    let r : as_work vs ≡ right x = rw (b, t, e) at q in
    let (ok, same) = ranged-right (in_four task_numbers run_times run_times work_sizes vs) _ x r in
    let z : get_or vs 3 0 ≡ 0 = rw (← same) at h in
    omega (arith, (tested-4 task_numbers run_times run_times work_sizes (get_or vs 0 0) (get_or vs 1 0) (get_or vs 2 0) (get_or vs 3 0) ok).3.least)

not_known : (l : Line) (x : InstanceLine) → HasWork l → instance_line l ≡ right x → Idle x → ⊥
not_known l x h q = work-line h.bytes h.numbers h.has_form x (rw h.is_ended at q)

-- a line that leaves a job without W is idle, and so was the job before it
idle-back : (I J : Instance) (x : InstanceLine) → with_line I x ≡ some J → NoWork J → Idle x × NoWork I
idle-back I J (board_line b r) q n = none-some q
idle-back I J (task_line i a) q n = split (eqb (file_count I) 0 && eqb i (suc (task_count I)))
    (λ t.
    let z : with_task I a ≡ J = cc (rw t at q) in
    let m : NoWork (with_task I a) = rw z n in (
      ap (λ b. b.work) (sym (get_or_at I.tasks a [] (record { on_blue = 0; on_red = 0; work = 0 }) (task_count I) refl)) ∙ m (task_count I),
      λ j. by_order j (task_count I) (λ l. ap (λ b. b.work) (sym (get_or-append I.tasks (a ∷ []) _ j l)) ∙ m j) (λ l. no-task I j l),
    ))
    (λ t. none-some (rw t at q))
idle-back I J (file_line i j f c) q n = split (file_allowed I i j)
    (λ t. let z : with_file I (record { maker = pred i; reader = pred j; size = f; move_time = c }) ≡ J = cc (rw t at q) in (tt, λ j. ap (λ K. work_at K j) z ∙ n j))
    (λ t. none-some (rw t at q))

rest-older : (ls : List Line) (I : Instance) (k : ℕ) (J : Instance) → NoWork J → read_rest_by current I k ls ≡ accepted J
    → (read_rest_by before_work I k ls ≡ accepted J) × NoWork I
unfolding read_rest_by
rest-older [] I k J n e = split (eqb (task_count I) 0)
    (λ t. let z : ◌≡◌ {A = ℕ} 0 1 = cc (rw t at e) in absurd (omega arith))
    (λ t. let z : I ≡ J = cc (rw t at e) in (e, rw z n))
rest-older (l ∷ ls) I k J n e = by-reading (due (with_line I) (instance_line l))
    (λ w d. let z : ◌≡◌ {A = ℕ} 0 1 = cc (rw (d, read_rest_by) at e) in absurd (omega arith))
    (λ K d.
    let rest = rest-older ls K (suc k) J n (rw (d, read_rest_by) at e) in
    let (x, q, t) = due-right (with_line I) K (instance_line l) d in
    let back = idle-back I K x t rest.1 in
    elim (line_before l) [
      | unknown _ h ↦ absurd (not_known l x h q back.0)
      | known s ↦ (rw (ap (due (with_line I)) s ∙ d, read_rest_by) rest.0, back.1)
    ])

board-line : (x : InstanceLine) (I : Instance) → with_board x ≡ some I → Idle x
board-line (board_line b r) I e = tt
board-line (task_line i a) I e = none-some e
board-line (file_line i j f c) I e = none-some e

lines-older : (ls : List Line) (J : Instance) → NoWork J → read_lines_by current ls ≡ accepted J → read_lines_by before_work ls ≡ accepted J
unfolding read_lines_by
lines-older [] J n e = e
lines-older (l ∷ ls) J n e = by-reading (due with_board (instance_line l))
    (λ w d. let z : ◌≡◌ {A = ℕ} 0 1 = cc (rw (d, read_lines_by) at e) in absurd (omega arith))
    (λ K d.
    let (x, q, t) = due-right with_board K (instance_line l) d in
    elim (line_before l) [
      | unknown _ h ↦ absurd (not_known l x h q (board-line x K t))
      | known s ↦ rw (ap (due with_board) s ∙ d, read_lines_by) (rest-older ls K 2 J n (rw (d, read_lines_by) at e)).0
    ])

pub reads_older : ReadsOlder
unfolding read_instance_by
reads_older sheet I e n = split (leb (length sheet) max_text)
    (λ s. rw (s, read_instance_by) (lines-older (lines_of sheet) I n (rw (s, read_instance_by) at e)))
    (λ s. let z : ◌≡◌ {A = ℕ} 0 1 = cc (rw (s, read_instance_by) at e) in absurd (omega arith))

-- so all answers to its sheet are the same
pub same_older : SameOlder
unfolding mark_by plan_by simulate_by
same_older sheet I e n =
    let f = reads_older sheet I e n in
    record {
      marks = λ timetable. rw (e, f, paper-before I timetable, mark_by);
      plans = λ R buffer. rw (e, f, plan_by);
      simulations = λ timetable made steps. rw (e, f, paper-before I timetable, simulate_by);
    }
