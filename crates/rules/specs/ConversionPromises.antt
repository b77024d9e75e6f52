-- What Order 7 promises: the converted job in words, the converter's answers, that a reader who does not know W reads the sheet written, and the order's
-- theorem.
use Rattle.std.specs.Prelude.{ℕ, suc, ◌+◌, ◌≤◌, ◌<◌, ◌&&◌, ◌||◌, ◌≡◌, ◌↔◌, ◌⊎◌, List, T, leb, eqb, length, take}
use Rattle.rules.specs.Count.{count_where}
use Rattle.rules.specs.Limits.{max_text, max_tasks, max_files, before_work}
use Rattle.rules.specs.Model.{Colour, Instance, side_of, task_count, file_count, task_at, file_at, work_at, NoWork, Schedule, run_at, move_at}
use Rattle.rules.specs.Validity.{Claim, accepted_with, true_claim}
use Rattle.rules.specs.Text.{Fault, in_sheet, fault_number}
use Rattle.rules.specs.InstanceText.{refused, accepted, read_instance_by, read_instance}
use Rattle.rules.specs.ScheduleText.{read, read_schedule, schedule_text}
use Rattle.rules.specs.Calls.{mark, overwritten}
use Rattle.rules.specs.Conversion.{has_work, added_count, served_at, converted, converted_text, stripped, stripped_text, extended, Output, unwritten, output, convert}
use Rattle.rules.specs.Promises.{WellFormed}
use Rattle.rules.specs.WorkingMemory.{SameAnswers}

-- ---- the converted job in words

-- m tasks of times 0 and 0 first, m being the number of tasks with W: task k of them makes one file, of move time 1 and size W, for the k-th task that has W;
-- the old tasks without W and the old files follow, both shifted by m; the same board
pub record ConvertedShape (I : Instance) : Type 0 where
  pub counted : added_count I ≡ count_where (task_count I) (has_work I)
  pub tasks : task_count (converted I) ≡ added_count I + task_count I
  pub files : file_count (converted I) ≡ added_count I + file_count I
  pub sides : (c : Colour) → side_of (converted I) c ≡ side_of I c
  pub serves : (k : ℕ) → k < added_count I → (served_at I k < task_count I) × (0 < work_at I (served_at I k))
  pub in_order : (k : ℕ) → suc k < added_count I → served_at I k < served_at I (suc k)
  pub each : (i : ℕ) → i < task_count I → 0 < work_at I i → (k : ℕ) × (k < added_count I) × (served_at I k ≡ i)
  pub added_task : (k : ℕ) → k < added_count I → task_at (converted I) k ≡ record { on_blue = 0; on_red = 0; work = 0 }
  pub old_task : (i : ℕ) → i < task_count I →
      task_at (converted I) (added_count I + i) ≡ record { on_blue = (task_at I i).on_blue; on_red = (task_at I i).on_red; work = 0 }
  pub added_file : (k : ℕ) → k < added_count I →
      file_at (converted I) k ≡ record { maker = k; reader = added_count I + served_at I k; size = work_at I (served_at I k); move_time = 1 }
  pub old_file : (k : ℕ) → k < file_count I →
      file_at (converted I) (added_count I + k) ≡ record {
        maker = added_count I + (file_at I k).maker;
        reader = added_count I + (file_at I k).reader;
        size = (file_at I k).size;
        move_time = (file_at I k).move_time;
      }

-- Not: limits of 0; the added tasks last; one added task for all; makers shifted and readers not. It fixes the converted job
abbrev pub ShapeLaw : Type 0
ShapeLaw = (I : Instance) → ConvertedShape I

-- what is left of a timetable has the run of old task i and the move of old file k under their old numbers.
-- Not: the added runs kept; runs stripped and moves not. It fixes what is left, but for its length, which StrippedAccepted has
abbrev pub StrippedLaw : Type 0
StrippedLaw =
    (I : Instance) (P : Schedule) →
    ((i : ℕ) → run_at (stripped I P) i ≡ run_at P (added_count I + i)) × ((k : ℕ) → move_at (stripped I P) k ≡ move_at P (added_count I + k))

-- ---- the converter's answers

-- neither 41 nor 42 applies
pub record Convertible (I : Instance) : Type 0 where
  pub tasks : added_count I + task_count I ≤ max_tasks
  pub files : added_count I + file_count I ≤ max_files

-- of an answer a for an accepted sheet: 41 exactly if over 64 tasks result; 42 exactly if not, and over 256 files do; 31 with the bytes needed exactly if
-- neither, and the text is longer than the buffer; success with the text written exactly if it fits
pub record ConvertedExactly (I : Instance) (buffer : List ℕ) (a : Output) : Type 0 where
  pub at41 : (a ≡ unwritten 41 0 buffer) ↔ (max_tasks < added_count I + task_count I)
  pub at42 : (a ≡ unwritten 42 0 buffer) ↔ ((added_count I + task_count I ≤ max_tasks) × (max_files < added_count I + file_count I))
  pub at31 : (a ≡ unwritten 31 (length (converted_text I)) buffer) ↔ (Convertible I × (length buffer < length (converted_text I)))
  pub success : (a ≡ record { number = 0; place = length (converted_text I); buffer = overwritten (converted_text I) buffer })
      ↔ (Convertible I × (length (converted_text I) ≤ length buffer))

-- Not: refused on each sheet; 42 before 41; 31 while the text fits; success over an untouched buffer. It fixes the answer for an accepted sheet
abbrev pub ConvertExact : Type 0
ConvertExact = (sheet buffer : List ℕ) (I : Instance) → read_instance sheet ≡ accepted I → ConvertedExactly I buffer (convert sheet buffer)

-- 1 to 4 exactly if the sheet is refused so, at that line. Not: one number for all refused sheets; bytes changed beside it
abbrev pub ConvertRefused : Type 0
ConvertRefused =
    (sheet buffer : List ℕ) (w : Fault) (k : ℕ) → (convert sheet buffer ≡ unwritten (fault_number in_sheet w) k buffer) ↔ (read_instance sheet ≡ refused w k)

-- success, or one refusal that is listed for the converter, with the buffer as it was
abbrev pub ConvertedOrRefused : List ℕ → Output → Type 0
ConvertedOrRefused buffer a =
    (a.number ≡ 0)
    ⊎ (T (leb 1 a.number && leb a.number 4 || eqb a.number 41 || eqb a.number 42 || eqb a.number 31) × (a.buffer ≡ buffer))

-- demand 1. Not: a number of its own; the first lines written before 31. Alone it is met by 41 on each sheet; ConvertExact rules that out
abbrev pub ConvertEnds : Type 0
ConvertEnds = (sheet buffer : List ℕ) → ConvertedOrRefused buffer (convert sheet buffer)

-- the converted sheet is no longer than a text may be, so a buffer of `max_text` bytes is never too short
abbrev pub ConvertedShort : Type 0
ConvertedShort = (I : Instance) → WellFormed I → Convertible I → length (converted_text I) ≤ max_text

-- a sheet without W comes out byte for byte, if it fits the buffer. Not: a sheet without W refused, or written in another way
abbrev pub SameSheet : Type 0
SameSheet = (sheet buffer : List ℕ) (I : Instance) → read_instance sheet ≡ accepted I → NoWork I → convert sheet buffer ≡ output sheet buffer

-- ---- what was written

-- the text is the converted job's sheet for a reader that knows W and for one that does not, and all answers to it are the same by both
pub record ReadsWithoutWork (I : Instance) (text : List ℕ) : Type 0 where
  pub is_sheet : read_instance text ≡ accepted (converted I)
  pub older : read_instance_by before_work text ≡ accepted (converted I)
  pub no_work : NoWork (converted I)
  pub same_answers : SameAnswers text

-- Not: a sheet that the reader refuses; a W left on. Alone it is met by a converter that never succeeds; ConvertExact rules that out
abbrev pub ConvertedReads : Type 0
ConvertedReads =
    (sheet buffer : List ℕ) (I : Instance) → read_instance sheet ≡ accepted I →
    let a = convert sheet buffer in
    a.number ≡ 0 → ReadsWithoutWork I (take a.place a.buffer)

-- a timetable is read on the converted sheet, and what is left of it is accepted for the original with its own true claim: the same span, and no greater peaks
pub record LeftAccepted (sheet timetable : List ℕ) (I : Instance) (claim : Claim) : Type 0 where
  pub schedule : Schedule
  pub is_read : read_schedule (converted I) timetable ≡ read schedule claim
  pub verdict : mark sheet (stripped_text I schedule) ≡ accepted_with (true_claim I (stripped I schedule))
  pub span : (true_claim I (stripped I schedule)).span ≡ claim.span
  pub blue_peak : (true_claim I (stripped I schedule)).blue_peak ≤ claim.blue_peak
  pub red_peak : (true_claim I (stripped I schedule)).red_peak ≤ claim.red_peak

-- the order's theorem: a timetable accepted for the sheet written, stripped, is accepted for the original.
-- Not: an added file that is held less long than W, or of another size. Alone it is met by a sheet on which nothing is accepted; ShapeLaw rules that out
abbrev pub StrippedAccepted : Type 0
StrippedAccepted =
    (sheet buffer timetable : List ℕ) (I : Instance) (claim : Claim) → read_instance sheet ≡ accepted I →
    let a = convert sheet buffer in
    a.number ≡ 0 → mark (take a.place a.buffer) timetable ≡ accepted_with claim → LeftAccepted sheet timetable I claim

-- a timetable is read on the original, and with the added runs it is accepted for the converted sheet with the same span and peaks
pub record ExtendedThere (text timetable : List ℕ) (I : Instance) (claim : Claim) : Type 0 where
  pub schedule : Schedule
  pub is_read : read_schedule I timetable ≡ read schedule claim
  pub verdict : mark text (schedule_text (converted I) (extended I schedule) claim) ≡ accepted_with claim

-- the other way round nothing is lost: a timetable accepted for the original is one of the sheet written, with each added task run where and when the task
-- that it serves starts, and no span or peak grows. Not: limits of 0; an added file that is held longer than W has to be, or of a greater size
abbrev pub ExtendedAccepted : Type 0
ExtendedAccepted =
    (sheet buffer timetable : List ℕ) (I : Instance) (claim : Claim) → read_instance sheet ≡ accepted I →
    let a = convert sheet buffer in
    a.number ≡ 0 → mark sheet timetable ≡ accepted_with claim → ExtendedThere (take a.place a.buffer) timetable I claim
