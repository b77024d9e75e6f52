-- Of the marks that the former widths gave for a number too long or too large each is another now: changed_marks; and the number reader: number_law.
use Prim.Native.Nat.{ℕ, suc, ◌<◌, ◌^◌}
use mathlib.Core.Bool.{Bool, true, false, ◌&&◌}
use mathlib.Core.Path.{◌≡◌, refl, sym, ap, ◌∙◌}
use mathlib.Core.List.{List, [], ◌∷◌}
use mathlib.Core.Logic.{inl, inr}
use mathlib.Core.Option.{Option, none, some}
use native.Mathlib.Omega.{arith}
use lib.ListN.{get_or}
use Rattle.rules.specs.Limits.{max_digits, Range, task_numbers, processor_counts, memory_limits, run_times, move_times, file_sizes, work_sizes, ticks, in_range}
use Rattle.rules.specs.Model.{Instance}
use Rattle.rules.specs.Validity.{Verdict, refused_by}
use Rattle.rules.specs.Text.{Fault, malformed, out_of_range, undue, in_sheet, fault_number}
use Rattle.rules.specs.Text.{Line, ended, unended, digits_of, value_from, numeral, decimal, scan, Reading, wrong, if_in_range, or_else}
use Rattle.rules.specs.InstanceText.{board_form, task_form, work_form, file_form, as_board, as_task, as_work, as_file, instance_line_by, instance_line, InstanceRead, refused, accepted, read_instance}
use Rattle.rules.specs.ScheduleText.{run_form, move_form, claim_form, processor_numbers, as_run, as_move, as_claim, schedule_line_by, schedule_line}
use Rattle.rules.specs.Calls.{mark}
use Rattle.rules.specs.SheetFaults as Sheet
use Rattle.rules.specs.ScheduleFaults as Paper
use Rattle.rules.specs.FinerTicks.{line_behind, sheet_forms, timetable_forms, OneOf, NumberLaw}
use Rattle.rules.specs.FinerTicks.{RefusedForWidth, long_in_sheet, large_run_time, large_move_time, long_in_timetable, ChangedMarks}
use Rattle.rules.proofs.FormLaws.{none-some}
use Rattle.rules.proofs.WidthLaws.{Unread}
use Rattle.rules.proofs.NumeralLaws.{spelled, digits_are, value-decimal, numeral-decimal, read-bound}
use Rattle.rules.proofs.ReadingLaws.{wrong-right}
use Rattle.rules.proofs.SheetFaultLaws.{sheet_faults}
use Rattle.rules.proofs.ScheduleFaultLaws.{schedule_faults}
use Rattle.rules.proofs.MarkerLaws.{mark-sheet}
use Rattle.rules.proofs.CallsExactLaws.{mark_call}
use Rattle.rules.proofs.FaultLaws.{sheet-numbers, marked-by-sheet, marked-by-paper}

-- ---- the line of a fault

-- the line at fault, if it is not readable, is read as that fault; so is one that is absent
sheet-bad : {o : Option Instance} {ls : List Line} {n : ℕ} {w : Fault} → Sheet.FirstBad o ls n w → (w ≡ undue → ⊥) → instance_line (get_or ls n (unended [])) ≡ wrong w
unfolding instance_line_by
sheet-bad Sheet.no_board h = refl
sheet-bad (Sheet.no_task t) h = refl
sheet-bad (Sheet.unread e) h = e
sheet-bad (Sheet.unallowed x e n) h = absurd (h refl)
sheet-bad (Sheet.later x J e q r) h = sheet-bad r h

paper-bad : {I : Instance} {s : Paper.SoFar} {ls : List Line} {n : ℕ} {w : Fault} → Paper.FirstBad I s ls n w → (w ≡ undue → ⊥)
    → schedule_line I (get_or ls n (unended [])) ≡ wrong w
unfolding schedule_line_by
paper-bad Paper.absent h = refl
paper-bad (Paper.unread e) h = e
paper-bad (Paper.another d x u e n) h = absurd (h refl)
paper-bad (Paper.later d x s u e t r) h = paper-bad r h

-- ---- a line that has a form

module _ {A : Type 0} where
  ranged-formed : (ok : Bool) (a : A) → if_in_range ok a ≡ wrong malformed → ⊥
  ranged-formed true a e = wrong-right (sym e)
  ranged-formed false a e = let z : out_of_range ≡ malformed = cc in let y : ◌≡◌ {A = ℕ} 3 2 = ap (fault_number in_sheet) z in omega arith

  or-formed : (f : List ℕ → Reading A) (o : Option (List ℕ)) (x : Reading A) → ((vs : List ℕ) → f vs ≡ wrong malformed → ⊥) → or_else f o x ≡ wrong malformed
      → (o ≡ none) × (x ≡ wrong malformed)
  or-formed f none x h e = (refl, e)
  or-formed f (some vs) x h e = absurd (h vs e)

-- the numbers of a form are in three or four ranges
abbrev pub in_three : Range → Range → Range → List ℕ → Bool
in_three r s t vs = in_range r (get_or vs 0 0) && in_range s (get_or vs 1 0) && in_range t (get_or vs 2 0)

abbrev pub in_four : Range → Range → Range → Range → List ℕ → Bool
in_four r s t u vs = in_three r s t vs && in_range u (get_or vs 3 0)

not-read : (l : List ℕ) (fs : List (List ℕ)) → Unread max_digits l fs → (form : List ℕ) → OneOf fs form → (vs : List ℕ) → scan form l ≡ some vs → ⊥
not-read l [] n form o vs e = absurd o
not-read l (f ∷ fs) n form (inl q) vs e = none-some (sym n.0 ∙ rw q at e)
not-read l (f ∷ fs) n form (inr o) vs e = not-read l fs n.1 form o vs e

pub sheet-formed : (form l vs : List ℕ) → OneOf sheet_forms form → scan form l ≡ some vs → instance_line (ended l) ≡ wrong malformed → ⊥
unfolding instance_line_by
sheet-formed form l vs o e q =
    let x = or-formed as_board (scan board_form l) _ (λ vs. ranged-formed (in_four processor_counts memory_limits processor_counts memory_limits vs) _) q in
    let y = or-formed as_task (scan task_form l) _ (λ vs. ranged-formed (in_three task_numbers run_times run_times vs) _) x.1 in
    let w = or-formed as_work (scan work_form l) _ (λ vs. ranged-formed (in_four task_numbers run_times run_times work_sizes vs) _) y.1 in
    let z = or-formed as_file (scan file_form l) _ (λ vs. ranged-formed (in_four task_numbers task_numbers file_sizes move_times vs) _) w.1 in
    not-read l sheet_forms (x.0, (y.0, (w.0, (z.0, tt)))) form o vs e

paper-formed : (I : Instance) (form l vs : List ℕ) → OneOf timetable_forms form → scan form l ≡ some vs
    → schedule_line I (ended l) ≡ wrong malformed → ⊥
unfolding schedule_line_by
paper-formed I form l vs o e q =
    let x = or-formed (as_run I) (scan run_form l) _ (λ vs. ranged-formed (in_three task_numbers (processor_numbers I) ticks vs) _) q in
    let y = or-formed as_move (scan move_form l) _ (λ vs. ranged-formed (in_three task_numbers task_numbers ticks vs) _) x.1 in
    let z = or-formed as_claim (scan claim_form l) _ (λ vs. ranged-formed (in_three ticks ticks ticks vs) _) y.1 in
    not-read l timetable_forms (x.0, (y.0, (z.0, tt))) form o vs e

-- ---- what a mark now says of the line

pub malformed-undue : malformed ≡ undue → ⊥
malformed-undue e = let z : ◌≡◌ {A = ℕ} 2 4 = ap (fault_number in_sheet) e in omega arith

large-undue : out_of_range ≡ undue → ⊥
large-undue e = let z : ◌≡◌ {A = ℕ} 3 4 = ap (fault_number in_sheet) e in omega arith

module _ (n : ℕ) where
  sheet-at : {sheet : List ℕ} {w : Fault} → (w ≡ undue → ⊥) → Sheet.SheetFault sheet w (suc n) → instance_line (line_behind sheet n) ≡ wrong w
  sheet-at u (Sheet.at_line _ w h f) = sheet-bad f u

  paper-at : {I : Instance} {timetable : List ℕ} {w : Fault} → (w ≡ undue → ⊥) → Paper.ScheduleFault I timetable w (suc n)
      → schedule_line I (line_behind timetable n) ≡ wrong w
  paper-at u (Paper.at_line _ w h f) = paper-bad f u

  module _ (sheet timetable : List ℕ) where
    -- 2 or 3, and 12
    pub marked-sheet : (w : Fault) → (w ≡ undue → ⊥) → mark sheet timetable ≡ refused_by (fault_number in_sheet w) (suc n)
        → instance_line (line_behind sheet n) ≡ wrong w
    marked-sheet w u e =
        sheet-at u ((sheet_faults sheet w (suc n)).0 (marked-by-sheet w (suc n) (mark_call sheet timetable) (ap (λ v. v.number) e) (ap (λ v. v.place) e)))

    marked-paper : (I : Instance) → read_instance sheet ≡ accepted I → mark sheet timetable ≡ refused_by 12 (suc n)
        → schedule_line I (line_behind timetable n) ≡ wrong malformed
    marked-paper I a e =
        paper-at malformed-undue ((schedule_faults I timetable malformed (suc n)).0
        (marked-by-paper malformed (suc n) I a (mark_call sheet timetable) (ap (λ v. v.number) e) (ap (λ v. v.place) e)))

-- ---- the marks

-- no mark now refuses such a line for such a number
not-now : (sheet timetable : List ℕ) {v : Verdict} → RefusedForWidth sheet timetable v → mark sheet timetable ≡ v → ⊥
not-now sheet timetable (long_in_sheet n form o x) e =
    let q = x.is_ended in
    sheet-formed form x.bytes x.numbers o x.has_form (rw q at (marked-sheet n sheet timetable malformed malformed-undue e))
not-now sheet timetable (large_run_time n i a c q h) e = wrong-right (sym (marked-sheet n sheet timetable out_of_range large-undue e) ∙ q)
not-now sheet timetable (large_move_time n i j f c q h) e = wrong-right (sym (marked-sheet n sheet timetable out_of_range large-undue e) ∙ q)
not-now sheet timetable (long_in_timetable n form o x) e = go (read_instance sheet) refl
  where
    go : (r : InstanceRead) → read_instance sheet ≡ r → ⊥
    go (refused w k) f = omega (arith, ap (λ v. v.number) (sym (mark-sheet sheet timetable w k f) ∙ e), sheet-numbers w)
    go (accepted I) f =
        let q = x.is_ended in
        paper-formed I form x.bytes x.numbers o x.has_form (rw q at (marked-paper n sheet timetable I f e))

pub changed_marks : ChangedMarks
changed_marks sheet timetable o e = not-now sheet timetable o e

-- ---- the number reader

pub number_law : NumberLaw
number_law l n = (
  (λ h.
      let b : value_from 0 (digits_of l) < 10 ^ max_digits = read-bound max_digits (omega arith) l h.0 in
      (spelled max_digits (digits_of l) (digits_are l) h.0 ∙ ap decimal h.1, omega (arith, h.1))),
  (λ h.
      let b : n < 10 ^ max_digits = omega (arith, h.1) in
      (ap numeral h.0 ∙ numeral-decimal max_digits n (omega arith) b, ap (value_from 0) h.0 ∙ value-decimal n)),
)
