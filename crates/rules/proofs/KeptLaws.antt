-- Old papers keep their marks, and old sheets their plans: kept_marks, kept_accepted, kept_plans, kept_simulations.
use Prim.Native.Nat.{ℕ, zero, suc, ◌+◌, ◌-◌}
use mathlib.Core.Path.{◌≡◌, refl, sym, ap, subst, ◌∙◌}
use mathlib.Core.Bool.{true}
use mathlib.Core.List.{List, [], ◌∷◌}
use mathlib.Core.Option.{Option}
use mathlib.Core.Logic.{inl, inr}
use native.Mathlib.Omega.{arith}
use native.Mathlib.Nat.{add-zero}
use lib.Dec.{leb}
use lib.ListN.{length, get_or, drop}
use lib.Seq.{drop-drop, get_or-drop}
use Rattle.rules.specs.Limits.{max_text, current, former}
use Rattle.rules.specs.Model.{Instance, task_count, file_count, file_at, moved, Schedule}
use Rattle.rules.specs.Validity.{Claim, Verdict, refused_by}
use Rattle.rules.specs.Text.{Fault, malformed, out_of_range, Line, unended, lines_of, due}
use Rattle.rules.specs.InstanceText.{instance_line_by, instance_line, with_board, with_line, InstanceRead, refused, accepted}
use Rattle.rules.specs.InstanceText.{read_rest_by, read_lines_by, read_instance_by}
use Rattle.rules.specs.ScheduleText.{ScheduleLine, schedule_line_by, schedule_line, run_of, move_of, claim_of}
use Rattle.rules.specs.ScheduleText.{ScheduleRead, refused as refused_timetable, read_end_by, read_claim_by, with_move, read_moves_by, with_run, read_runs_by, read_schedule_by}
use Rattle.rules.specs.Scheduling.{Planner}
use Rattle.rules.specs.Calls.{mark_by, plan_by}
use Rattle.rules.specs.Simulation.{simulate_by}
use Rattle.rules.specs.FinerTicks.{line_behind, sheet_forms, timetable_forms, RefusedForWidth, long_in_sheet, large_run_time, large_move_time, long_in_timetable, KeptMarks, KeptAccepted, KeptPlan, KeptPlans, KeptSimulations}
use Rattle.rules.proofs.Tests.{split}
use Rattle.rules.proofs.ReadingLaws.{by-reading}
use Rattle.rules.proofs.KeptLineLaws.{is_long, is_large, is_same, due-kept, LongIn, LargeTime, of_run, of_move, sheet-line, paper-line}

-- ---- the line at a place

module _ (bs : List ℕ) (at : ℕ) (l : Line) (ls : List Line) (e : drop at (lines_of bs) ≡ l ∷ ls) where
  pub line-behind : l ≡ line_behind bs at
  line-behind =
      let x : get_or (drop at (lines_of bs)) 0 (unended []) ≡ get_or (lines_of bs) at (unended []) = rw add-zero at (get_or-drop at (lines_of bs) 0 (unended [])) in
      let y : get_or (drop at (lines_of bs)) 0 (unended []) ≡ l = rw e in
      sym y ∙ x

  pub lines-behind : drop (suc at) (lines_of bs) ≡ ls
  lines-behind =
      let n : at + 1 ≡ suc at = omega arith in
      let x : drop 1 (drop at (lines_of bs)) ≡ drop (suc at) (lines_of bs) = rw n at (drop-drop 1 at (lines_of bs)) in
      sym x ∙ ap (drop 1) e

-- ---- a board sheet

abbrev LongOnSheet : Line → Type 0
LongOnSheet = LongIn sheet_forms

-- the sheet's reading x by the former widths, and y by the widths now
data KeptSheet (bs : List ℕ) (x y : InstanceRead) : Type 0 where
  sheet_long : (n : ℕ) → x ≡ refused malformed (suc n) → LongOnSheet (line_behind bs n) → KeptSheet bs x y
  sheet_large : (n : ℕ) → x ≡ refused out_of_range (suc n) → LargeTime (line_behind bs n) → KeptSheet bs x y
  sheet_same : x ≡ y → KeptSheet bs x y

module _ (bs : List ℕ) where
  rest-kept : (ls : List Line) (I : Instance) (at : ℕ) → drop at (lines_of bs) ≡ ls
      → KeptSheet bs (read_rest_by former I (suc at) ls) (read_rest_by current I (suc at) ls)
  unfolding read_rest_by
  rest-kept [] I at e = sheet_same refl
  rest-kept (l ∷ ls) I at e = elim (due-kept (with_line I) (instance_line_by former l) (instance_line l) (sheet-line l)) [
    | is_long q h ↦ sheet_long at (rw (q, read_rest_by)) (subst LongOnSheet (line-behind bs at l ls e) h)
    | is_large q h ↦ sheet_large at (rw (q, read_rest_by)) (subst LargeTime (line-behind bs at l ls e) h)
    | is_same q ↦
        by-reading (due (with_line I) (instance_line_by former l))
        (λ w d. sheet_same (rw (d, sym q ∙ d, read_rest_by)))
        (λ J d. rw (d, sym q ∙ d, read_rest_by) (rest-kept ls J (suc at) (lines-behind bs at l ls e)))
  ]

  lines-kept : (ls : List Line) → lines_of bs ≡ ls → KeptSheet bs (read_lines_by former ls) (read_lines_by current ls)
  unfolding read_lines_by
  lines-kept [] e = sheet_same refl
  lines-kept (l ∷ ls) e = elim (due-kept with_board (instance_line_by former l) (instance_line l) (sheet-line l)) [
    | is_long q h ↦ sheet_long 0 (rw (q, read_lines_by)) (subst LongOnSheet (line-behind bs 0 l ls e) h)
    | is_large q h ↦ sheet_large 0 (rw (q, read_lines_by)) (subst LargeTime (line-behind bs 0 l ls e) h)
    | is_same q ↦
        by-reading (due with_board (instance_line_by former l))
        (λ w d. sheet_same (rw (d, sym q ∙ d, read_lines_by)))
        (λ J d. rw (d, sym q ∙ d, read_lines_by) (rest-kept ls J 1 (lines-behind bs 0 l ls e)))
  ]

  sheet-kept : KeptSheet bs (read_instance_by former bs) (read_instance_by current bs)
  unfolding read_instance_by
  sheet-kept = split (leb (length bs) max_text)
      (λ s. rw (s, read_instance_by) (lines-kept (lines_of bs) refl))
      (λ s. rw (s, read_instance_by) (sheet_same refl))

-- ---- a timetable

abbrev LongInPaper : Line → Type 0
LongInPaper = LongIn timetable_forms

data KeptPaper (bs : List ℕ) (x y : ScheduleRead) : Type 0 where
  paper_long : (n : ℕ) → x ≡ refused_timetable malformed (suc n) → LongInPaper (line_behind bs n) → KeptPaper bs x y
  paper_same : x ≡ y → KeptPaper bs x y

module _ (bs : List ℕ) (I : Instance) where
  end_kept : (ls : List Line) (P : Schedule) (c : Claim) (at : ℕ) → drop at (lines_of bs) ≡ ls
      → KeptPaper bs (read_end_by former I P c (suc at) ls) (read_end_by current I P c (suc at) ls)
  unfolding read_end_by
  end_kept [] P c at e = paper_same refl
  end_kept (l ∷ ls) P c at e = elim (paper-line I l) [
    | is_long q h ↦ paper_long at (rw q) (subst LongInPaper (line-behind bs at l ls e) h)
    | is_large q h ↦ absurd h
    | is_same q ↦ paper_same (rw q)
  ]

  claim-kept : (ls : List Line) (P : Schedule) (at : ℕ) → drop at (lines_of bs) ≡ ls
      → KeptPaper bs (read_claim_by former I P (suc at) ls) (read_claim_by current I P (suc at) ls)
  unfolding read_claim_by
  claim-kept [] P at e = paper_same refl
  claim-kept (l ∷ ls) P at e = elim (due-kept claim_of (schedule_line_by former I l) (schedule_line I l) (paper-line I l)) [
    | is_long q h ↦ paper_long at (rw (q, read_claim_by)) (subst LongInPaper (line-behind bs at l ls e) h)
    | is_large q h ↦ absurd h
    | is_same q ↦
        by-reading (due claim_of (schedule_line_by former I l))
        (λ w d. paper_same (rw (d, sym q ∙ d, read_claim_by)))
        (λ c d. rw (d, sym q ∙ d, read_claim_by) (end_kept ls P c (suc at) (lines-behind bs at l ls e)))
  ]

  module _ (left : ℕ) (P : Schedule) (at : ℕ) (m : moved I P (file_count I - suc left) ≡ true) where
    abbrev move-due : ScheduleLine → Option ℕ
    move-due = move_of (suc (file_at I (file_count I - suc left)).maker) (suc (file_at I (file_count I - suc left)).reader)

    move-kept : (ls : List Line) → drop at (lines_of bs) ≡ ls
        → ((t : ℕ) (rest : List Line) → drop (suc at) (lines_of bs) ≡ rest
        → KeptPaper bs (read_moves_by former I left (with_move P t) (suc (suc at)) rest) (read_moves_by current I left (with_move P t) (suc (suc at)) rest))
        → KeptPaper bs (read_moves_by former I (suc left) P (suc at) ls) (read_moves_by current I (suc left) P (suc at) ls)
    unfolding read_moves_by
    move-kept [] e ih = paper_same (rw (m, read_moves_by))
    move-kept (l ∷ ls) e ih = elim (due-kept move-due (schedule_line_by former I l) (schedule_line I l) (paper-line I l)) [
      | is_long q h ↦ paper_long at (rw (m, q, read_moves_by)) (subst LongInPaper (line-behind bs at l ls e) h)
      | is_large q h ↦ absurd h
      | is_same q ↦
          by-reading (due move-due (schedule_line_by former I l))
          (λ w d. paper_same (rw (m, d, sym q ∙ d, read_moves_by)))
          (λ t d. rw (m, d, sym q ∙ d, read_moves_by) (ih t ls (lines-behind bs at l ls e)))
    ]

  moves-kept : (left : ℕ) (ls : List Line) (P : Schedule) (at : ℕ) → drop at (lines_of bs) ≡ ls
      → KeptPaper bs (read_moves_by former I left P (suc at) ls) (read_moves_by current I left P (suc at) ls)
  unfolding read_moves_by
  moves-kept zero ls P at e = claim-kept ls P at e
  moves-kept (suc left) ls P at e = split (moved I P (file_count I - suc left))
      (λ m. move-kept left P at m ls e (λ t rest f. moves-kept left rest (with_move P t) (suc at) f))
      (λ m. rw (m, read_moves_by) (moves-kept left ls (with_move P 0) at e))

  runs-kept : (left : ℕ) (ls : List Line) (P : Schedule) (at : ℕ) → drop at (lines_of bs) ≡ ls
      → KeptPaper bs (read_runs_by former I left P (suc at) ls) (read_runs_by current I left P (suc at) ls)
  unfolding read_runs_by
  runs-kept zero ls P at e = moves-kept (file_count I) ls P at e
  runs-kept (suc left) [] P at e = paper_same refl
  runs-kept (suc left) (l ∷ ls) P at e =
      elim (due-kept (run_of (suc (task_count I - suc left))) (schedule_line_by former I l) (schedule_line I l) (paper-line I l)) [
        | is_long q h ↦ paper_long at (rw (q, read_runs_by)) (subst LongInPaper (line-behind bs at l ls e) h)
        | is_large q h ↦ absurd h
        | is_same q ↦
            by-reading (due (run_of (suc (task_count I - suc left))) (schedule_line_by former I l))
            (λ w d. paper_same (rw (d, sym q ∙ d, read_runs_by)))
            (λ r d. rw (d, sym q ∙ d, read_runs_by) (runs-kept left ls (with_run P r) (suc at) (lines-behind bs at l ls e)))
      ]

  paper-kept : KeptPaper bs (read_schedule_by former I bs) (read_schedule_by current I bs)
  unfolding read_schedule_by
  paper-kept = split (leb (length bs) max_text)
      (λ s. rw (s, read_schedule_by) (runs-kept (task_count I) (lines_of bs) (record { runs = []; moves = [] }) 0 refl))
      (λ s. rw (s, read_schedule_by) (paper_same refl))

-- ---- both texts

module _ (sheet timetable : List ℕ) where
  -- the former mark refuses a line for the width of a number, or both texts are read as they are now
  data KeptTexts : Type 0 where
    for_width : RefusedForWidth sheet timetable (mark_by former sheet timetable) → KeptTexts
    both_refuse : (w : Fault) (k : ℕ) → read_instance_by former sheet ≡ refused w k → read_instance_by current sheet ≡ refused w k → KeptTexts
    both_accept : (I : Instance) → read_instance_by former sheet ≡ accepted I → read_instance_by current sheet ≡ accepted I
        → read_schedule_by former I timetable ≡ read_schedule_by current I timetable → KeptTexts

  long-sheet : (n : ℕ) → LongOnSheet (line_behind sheet n) → RefusedForWidth sheet timetable (refused_by 2 (suc n))
  long-sheet n (form, o, x) = long_in_sheet n form o x

  large-sheet : (n : ℕ) → LargeTime (line_behind sheet n) → RefusedForWidth sheet timetable (refused_by 3 (suc n))
  large-sheet n (of_run i a c e h) = large_run_time n i a c e h
  large-sheet n (of_move i j f c e h) = large_move_time n i j f c e h

  paper-texts : (I : Instance) → read_instance_by former sheet ≡ accepted I → read_instance_by current sheet ≡ accepted I
      → KeptPaper timetable (read_schedule_by former I timetable) (read_schedule_by current I timetable) → KeptTexts
  unfolding mark_by
  paper-texts I a b (paper_long n q (form, o, x)) = for_width (rw (a, q, mark_by) (long_in_timetable n form o x))
  paper-texts I a b (paper_same q) = both_accept I a b q

  sheet-texts : KeptSheet sheet (read_instance_by former sheet) (read_instance_by current sheet) → KeptTexts
  unfolding mark_by
  sheet-texts (sheet_long n q h) = for_width (rw (q, mark_by) (long-sheet n h))
  sheet-texts (sheet_large n q h) = for_width (rw (q, mark_by) (large-sheet n h))
  sheet-texts (sheet_same q) = go (read_instance_by former sheet) refl
    where
      go : (x : InstanceRead) → read_instance_by former sheet ≡ x → KeptTexts
      go (refused w k) e = both_refuse w k e (sym q ∙ e)
      go (accepted I) e = paper-texts I e (sym q ∙ e) (paper-kept timetable I)

  kept-texts : KeptTexts
  kept-texts = sheet-texts (sheet-kept sheet)

-- ---- the marks

pub kept_marks : KeptMarks
unfolding mark_by
kept_marks sheet timetable = elim (kept-texts sheet timetable) [
  | for_width o ↦ inr o
  | both_refuse w k a b ↦ inl (rw (a, b, mark_by))
  | both_accept I a b q ↦ inl (rw (a, b, q, mark_by))
]

-- ---- acceptance

for-width-refuses : (sheet timetable : List ℕ) {v : Verdict} → RefusedForWidth sheet timetable v → v.number ≡ 0 → ⊥
for-width-refuses sheet timetable (long_in_sheet n form o x) e = omega arith
for-width-refuses sheet timetable (large_run_time n i a c q h) e = omega arith
for-width-refuses sheet timetable (large_move_time n i j f c q h) e = omega arith
for-width-refuses sheet timetable (long_in_timetable n form o x) e = omega arith

pub kept_accepted : KeptAccepted
kept_accepted sheet timetable claim e = elim (kept_marks sheet timetable) [
  | inl q ↦ q ∙ e
  | inr o ↦ absurd (for-width-refuses sheet timetable o (ap (λ v. v.number) e))
]

-- ---- the planners and the simulator

module _ (R : Planner) (sheet buffer : List ℕ) where
  plan-kept : KeptSheet sheet (read_instance_by former sheet) (read_instance_by current sheet) → KeptPlan R sheet buffer (plan_by current R sheet buffer)
  unfolding plan_by
  plan-kept (sheet_long n q h) = inr (rw (q, plan_by) (long-sheet sheet [] n h))
  plan-kept (sheet_large n q h) = inr (rw (q, plan_by) (large-sheet sheet [] n h))
  plan-kept (sheet_same q) = inl (rw (q, plan_by))

pub kept_plans : KeptPlans
kept_plans R sheet buffer = plan-kept R sheet buffer (sheet-kept sheet)

pub kept_simulations : KeptSimulations
unfolding simulate_by
kept_simulations sheet timetable made steps = elim (kept-texts sheet timetable) [
  | for_width o ↦ inr o
  | both_refuse w k a b ↦ inl (rw (a, b, simulate_by))
  | both_accept I a b q ↦ inl (rw (a, b, q, simulate_by))
]
