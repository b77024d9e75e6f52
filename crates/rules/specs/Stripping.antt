-- The stripper, for those who use Order 7, and not the order's own: what is left of a timetable of the converted sheet, written for the original; and what it
-- promises.
use Rattle.std.specs.Prelude.{ℕ, ◌+◌, ◌≤◌, ◌<◌, cond, ◌≡◌, ◌↔◌, ◌⊎◌, List, eqb, length, take}
use Rattle.rules.specs.Limits.{max_text, max_tasks, max_files}
use Rattle.rules.specs.Model.{Instance, task_count, file_count, Schedule}
use Rattle.rules.specs.Validity.{Claim, Verdict, judge, accepted_with, refused_by}
use Rattle.rules.specs.Text.{Fault, in_sheet, in_timetable, fault_number}
use Rattle.rules.specs.InstanceText.{refused, accepted, read_instance}
use Rattle.rules.specs.ScheduleText.{ScheduleRead, refused as refused_timetable, read, read_schedule}
use Rattle.rules.specs.Calls.{mark, overwritten}
use Rattle.rules.specs.Promises.{WellFormed}
use Rattle.rules.specs.Conversion.{added_count, converted, converted_text, stripped_text, Output, unwritten, output, if_convertible}
use Rattle.rules.specs.ConversionPromises.{Convertible, ConvertedOrRefused}

-- ---- the call

-- by the verdict on the timetable, by what was read of it, behind an accepted sheet, and on a sheet
abbrev pub strip_marked : Instance → Schedule → List ℕ → Verdict → Output
strip_marked I P buffer v = cond (eqb v.number 0) (output (stripped_text I P) buffer) (unwritten v.number v.place buffer)

abbrev pub strip_read : Instance → List ℕ → ScheduleRead → Output
strip_read I buffer (refused_timetable w k) = unwritten (fault_number in_timetable w) k buffer
strip_read I buffer (read P claim) = strip_marked I P buffer (judge (converted I) P claim)

abbrev pub strip_on : Instance → List ℕ → List ℕ → Output
strip_on I timetable buffer = if_convertible I buffer (strip_read I buffer (read_schedule (converted I) timetable))

unfoldable pub strip : List ℕ → List ℕ → List ℕ → Output
strip sheet timetable buffer =
    elim (read_instance sheet) [
      | refused w k ↦ unwritten (fault_number in_sheet w) k buffer
      | accepted I ↦ strip_on I timetable buffer
    ]

-- ---- its answers

-- the converter would write a sheet, and the timetable is accepted for it
pub record AcceptedThere (I : Instance) (timetable : List ℕ) : Type 0 where
  pub convertible : Convertible I
  pub schedule : Schedule
  pub claim : Claim
  pub is_read : read_schedule (converted I) timetable ≡ read schedule claim
  pub verdict : mark (converted_text I) timetable ≡ accepted_with claim

-- the marker's own numbers for a timetable
abbrev pub OfTimetable : ℕ → Type 0
OfTimetable n = (11 ≤ n) × (n ≤ 18)

-- of an answer a for an accepted sheet: 41 and 42 as the converter's; 11 to 18 exactly as the marker answers on the converted sheet; 31 with the bytes needed
-- exactly if it accepts and what is left is longer than the buffer; success with that text written exactly if it fits
pub record StrippedExactly (I : Instance) (timetable buffer : List ℕ) (a : Output) : Type 0 where
  pub at41 : (a ≡ unwritten 41 0 buffer) ↔ (max_tasks < added_count I + task_count I)
  pub at42 : (a ≡ unwritten 42 0 buffer) ↔ ((added_count I + task_count I ≤ max_tasks) × (max_files < added_count I + file_count I))
  pub marked : (n k : ℕ) → OfTimetable n → (a ≡ unwritten n k buffer) ↔ (Convertible I × (mark (converted_text I) timetable ≡ refused_by n k))
  pub at31 : (n : ℕ) → (a ≡ unwritten 31 n buffer)
      ↔ ((x : AcceptedThere I timetable) × (length (stripped_text I x.schedule) ≡ n) × (length buffer < n))
  pub success : (n : ℕ) (left : List ℕ) → (a ≡ record { number = 0; place = n; buffer = left })
      ↔ ((x : AcceptedThere I timetable) × (length (stripped_text I x.schedule) ≡ n) × (n ≤ length buffer)
      × (overwritten (stripped_text I x.schedule) buffer ≡ left))

-- Not: refused on each timetable; the claim kept; 31 before the marker's refusal; an added run left. It fixes the answer for an accepted sheet
abbrev pub StripExact : Type 0
StripExact =
    (sheet timetable buffer : List ℕ) (I : Instance) → read_instance sheet ≡ accepted I → StrippedExactly I timetable buffer (strip sheet timetable buffer)

abbrev pub StripRefused : Type 0
StripRefused =
    (sheet timetable buffer : List ℕ) (w : Fault) (k : ℕ) →
    (strip sheet timetable buffer ≡ unwritten (fault_number in_sheet w) k buffer) ↔ (read_instance sheet ≡ refused w k)

-- success, or one refusal of the converter's or of the marker's, with the buffer as it was
abbrev pub StrippedOrRefused : List ℕ → Output → Type 0
StrippedOrRefused buffer a = ConvertedOrRefused buffer a ⊎ (OfTimetable a.number × (a.buffer ≡ buffer))

abbrev pub StripEnds : Type 0
StripEnds = (sheet timetable buffer : List ℕ) → StrippedOrRefused buffer (strip sheet timetable buffer)

-- what was written is no longer than a text may be. Alone it is met by a stripper that never succeeds; StripExact rules that out
abbrev pub StrippedShort : Type 0
StrippedShort = (I : Instance) → WellFormed I → (timetable : List ℕ) → (x : AcceptedThere I timetable) → length (stripped_text I x.schedule) ≤ max_text

-- what was written is accepted for the original. Not: a claim that is not true; a run misnumbered. Alone it is met by a stripper that never succeeds;
-- StripExact rules that out
abbrev pub StripAccepted : Type 0
StripAccepted =
    (sheet timetable buffer : List ℕ) →
    let a = strip sheet timetable buffer in
    a.number ≡ 0 → (claim : Claim) × (mark sheet (take a.place a.buffer) ≡ accepted_with claim)
