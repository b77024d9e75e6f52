-- The marker's answer, by what was read of the board sheet, and the line at fault.
use Prim.Native.Nat.{ℕ}
use mathlib.Core.Bool.{Bool, true, false}
use mathlib.Core.List.{List, []}
use mathlib.Core.Path.{◌≡◌, refl, sym, ◌∙◌}
use Rattle.rules.specs.Limits.{in_range}
use Rattle.rules.specs.Model.{Instance}
use Rattle.rules.specs.Validity.{refused_by, accepted_with, Verdict}
use Rattle.rules.specs.Text as Text
use Rattle.rules.specs.Text.{in_sheet, in_timetable, fault_number}
use Rattle.rules.specs.InstanceText as Sheet
use Rattle.rules.specs.InstanceText.{read_instance}
use Rattle.rules.specs.ScheduleText as Paper
use Rattle.rules.specs.ScheduleText.{read_schedule}
use Rattle.rules.specs.Calls.{mark_on, mark_by, mark, line_at, fault_line}
use Rattle.rules.specs.declared.refusal.Fault.{Fault}
use Rattle.rules.specs.declared.refusal.Refusal.{Refusal}
use Rattle.model.specs.declared.claim.Claim.{Claim}
use Rattle.model.specs.Claims.{as_claim}
use Rattle.rules.specs.Refusals.{as_fault, refusal_number, refusal_place}
use Rattle.instance.specs.Reads.{IsRefused}
use Rattle.instance.proofs.AcceptedLaws.{of_sheet}

-- ---- the answer

mark-refused : (sheet timetable : List ℕ) {w : _} (k : ℕ) → read_instance sheet ≡ Sheet.refused w k → mark sheet timetable ≡ refused_by (fault_number in_sheet w) k
unfolding mark_by
mark-refused sheet timetable k e = rw (e, mark_by)

pub mark-accepted : (sheet timetable : List ℕ) (I : Instance) → read_instance sheet ≡ Sheet.accepted I → mark sheet timetable ≡ mark_on I timetable
unfolding mark_by
mark-accepted sheet timetable I e = by_read (read_schedule I timetable) refl
  where
    by_read : (x : Paper.ScheduleRead) → read_schedule I timetable ≡ x → mark sheet timetable ≡ mark_on I timetable
    by_read (Paper.refused w k) f = rw (e, f, mark_by)
    by_read (Paper.read P c) f = rw (e, f, mark_by)

pub marked_refused : (sheet timetable : List ℕ) (e : Refusal) → IsRefused e (read_instance sheet)
    → refused_by (refusal_number e) (refusal_place e) ≡ mark sheet timetable
marked_refused sheet timetable e q = let f = of_sheet sheet e q in rw f.is (sym (mark-refused sheet timetable f.line f.refused))

-- ---- the line at fault

-- a number from `least` to `most`
abbrev among : ℕ → ℕ → ℕ → Bool
among least most n = in_range (record { least = least; most = most }) n

module _ (sheet timetable : List ℕ) (v : Verdict) (marked : v ≡ mark sheet timetable) where
  pub fault-in-sheet : among 1 4 v.number ≡ true → line_at sheet v.place ≡ fault_line sheet timetable
  unfolding fault_line
  fault-in-sheet e =
      let n : among 1 4 (mark sheet timetable).number ≡ true = rw marked at e in
      rw (marked, n, fault_line)

  pub fault-in-paper : among 1 4 v.number ≡ false → among 11 14 v.number ≡ true → line_at timetable v.place ≡ fault_line sheet timetable
  unfolding fault_line
  fault-in-paper e f =
      let m : among 1 4 (mark sheet timetable).number ≡ false = rw marked at e in
      let n : among 11 14 (mark sheet timetable).number ≡ true = rw marked at f in
      rw (marked, m, n, fault_line)

  pub fault-nowhere : among 1 4 v.number ≡ false → among 11 14 v.number ≡ false → [] ≡ fault_line sheet timetable
  unfolding fault_line
  fault-nowhere e f =
      let m : among 1 4 (mark sheet timetable).number ≡ false = rw marked at e in
      let n : among 11 14 (mark sheet timetable).number ≡ false = rw marked at f in
      rw (m, n, fault_line)

-- a fault of either text has a number of its own
in-sheet : (w : Text.Fault) → among 1 4 (fault_number in_sheet w) ≡ true
in-sheet Text.too_long = refl
in-sheet Text.malformed = refl
in-sheet Text.out_of_range = refl
in-sheet Text.undue = refl

not-in-sheet : (w : Text.Fault) → among 1 4 (fault_number in_timetable w) ≡ false
not-in-sheet Text.too_long = refl
not-in-sheet Text.malformed = refl
not-in-sheet Text.out_of_range = refl
not-in-sheet Text.undue = refl

in-paper : (w : Text.Fault) → among 11 14 (fault_number in_timetable w) ≡ true
in-paper Text.too_long = refl
in-paper Text.malformed = refl
in-paper Text.out_of_range = refl
in-paper Text.undue = refl

-- by what the marker answers
module _ (sheet timetable : List ℕ) where
  pub line-in-sheet : (e : Refusal) {f : Fault} {k : ℕ} → e ≡ Refusal.Sheet f k → refused_by (refusal_number e) (refusal_place e) ≡ mark sheet timetable
      → line_at sheet k ≡ fault_line sheet timetable
  line-in-sheet e {f} {k} i q = fault-in-sheet sheet timetable (refused_by (fault_number in_sheet (as_fault f)) k) (rw i at q) (in-sheet (as_fault f))

  pub line-in-paper : (e : Refusal) {f : Fault} {k : ℕ} → e ≡ Refusal.Timetable f k → refused_by (refusal_number e) (refusal_place e) ≡ mark sheet timetable
      → line_at timetable k ≡ fault_line sheet timetable
  line-in-paper e {f} {k} i q =
      fault-in-paper sheet timetable (refused_by (fault_number in_timetable (as_fault f)) k) (rw i at q) (not-in-sheet (as_fault f)) (in-paper (as_fault f))

  pub accepted-line : (c : Claim) → accepted_with (as_claim c) ≡ mark sheet timetable → [] ≡ fault_line sheet timetable
  accepted-line c q = fault-nowhere sheet timetable (accepted_with (as_claim c)) q refl refl

  pub no-line : (e : Refusal) → refused_by (refusal_number e) (refusal_place e) ≡ mark sheet timetable → ((f : Fault) (k : ℕ) → e ≡ Refusal.Sheet f k → ⊥)
      → ((f : Fault) (k : ℕ) → e ≡ Refusal.Timetable f k → ⊥) → [] ≡ fault_line sheet timetable
  no-line (Refusal.Sheet f k) q s t = absurd (s f k refl)
  no-line (Refusal.Timetable f k) q s t = absurd (t f k refl)
  no-line (Refusal.Overlap k) q s t = fault-nowhere sheet timetable (refused_by 15 k) q refl refl
  no-line (Refusal.Early k) q s t = fault-nowhere sheet timetable (refused_by 16 k) q refl refl
  no-line (Refusal.OverLimit k) q s t = fault-nowhere sheet timetable (refused_by 17 k) q refl refl
  no-line Refusal.UntrueClaim q s t = fault-nowhere sheet timetable (refused_by 18 0) q refl refl
  no-line (Refusal.Stuck k) q s t = fault-nowhere sheet timetable (refused_by 21 k) q refl refl
  no-line (Refusal.Short k) q s t = fault-nowhere sheet timetable (refused_by 31 k) q refl refl
  no-line Refusal.TooManyTasks q s t = fault-nowhere sheet timetable (refused_by 41 0) q refl refl
  no-line Refusal.TooManyFiles q s t = fault-nowhere sheet timetable (refused_by 42 0) q refl refl
