-- The whole timetable, and what a caller knows of what was read.
use Prim.Native.Nat.{ℕ, ◌≤◌, ◌<◌}
use mathlib.Core.Path.{◌≡◌, refl, subst}
use mathlib.Core.List.{List}
use Rattle.std.specs.Prelude.{Result, Ok, Err, IfOk}
use borrow.Author.Tests.{le-leb, lt-leb}
use lib.ListN.{length}
use Rattle.rules.specs.Limits.{max_text}
use Rattle.rules.specs.Model.{Instance, Schedule, task_count}
use Rattle.rules.specs.Text.{too_long, lines_of}
use Rattle.rules.specs.Validity.{Claim}
use Rattle.rules.specs.Promises.{Spellable}
use Rattle.rules.specs.ScheduleText.{refused, read, read_runs, read_schedule_by, read_schedule}
use Rattle.rules.proofs.TimetableOnlyLaws.{read_only}
use Rattle.rules.specs.declared.refusal.Fault.{Fault}
use Rattle.rules.specs.declared.refusal.Refusal.{Refusal}
use Rattle.rules.specs.declared.refusal.Refusal.TheVariants.{Sheet, Timetable, Overlap, Early, OverLimit, UntrueClaim, Stuck, Short, TooManyTasks, TooManyFiles}
use Rattle.rules.specs.Refusals.{as_fault}
use Rattle.model.specs.declared.claim.Claim as Code
use Rattle.model.specs.Claims.{as_claim}
use Rattle.model.specs.declared.job.Job.{Job}
use Rattle.model.specs.declared.layout.Schedule.{Schedule as StoredSchedule}
use Rattle.model.specs.Layout.{Entries, entries_of}
use Rattle.model.specs.Jobs.{instance_in, schedule_by, schedule_of, ScheduleInBounds, AllPlaced}
use Rattle.model.proofs.SpelledLaws.{spelled-placed, spelled-bounds}
use Rattle.schedule.specs.Reading.{IsRead, nothing}

module _ (I : Instance) (bs : List ℕ) where
  pub read-long : max_text < length bs → read_schedule I bs ≡ refused too_long 0
  unfolding read_schedule_by
  read-long h = rw (lt-leb _ _ h, read_schedule_by)

  pub read_short : length bs ≤ max_text → read_schedule I bs ≡ read_runs I (task_count I) nothing 1 (lines_of bs)
  unfolding read_schedule_by
  read_short h = rw (le-leb _ _ h, read_schedule_by)

-- ---- what is read is complete, with every number in its range
module _ (j : Job) (L : Entries) (c : Claim) where
  pub read-spellable : (bs : List ℕ) → read_schedule (instance_in j) bs ≡ read (schedule_by j L) c → Spellable (instance_in j) (schedule_by j L) c
  read-spellable bs e = (read_only (instance_in j) (schedule_by j L) c bs e).0

-- ---- a refusal of the timetable: its fault and its line
pub record OfTimetable (I : Instance) (bs : List ℕ) (e : Refusal) : Type 0 where
  pub fault : Fault
  pub line : ℕ
  pub is : e ≡ Timetable fault line
  pub refused : read_schedule I bs ≡ refused (as_fault fault) line

of_timetable : (I : Instance) (bs : List ℕ) (P : Schedule) (e : Refusal) → IsRead P (Err e) (read_schedule I bs) → OfTimetable I bs e
of_timetable I bs P (Sheet w k) q = absurd q
of_timetable I bs P (Timetable w k) q = record { fault = w; line = k; is = refl; refused = q }
of_timetable I bs P (Overlap k) q = absurd q
of_timetable I bs P (Early k) q = absurd q
of_timetable I bs P (OverLimit t) q = absurd q
of_timetable I bs P UntrueClaim q = absurd q
of_timetable I bs P (Stuck k) q = absurd q
of_timetable I bs P (Short k) q = absurd q
of_timetable I bs P TooManyTasks q = absurd q
of_timetable I bs P TooManyFiles q = absurd q

-- ---- what `read` ensures, by the case that its caller found
module _ (I : Instance) (bs : List ℕ) (P : Schedule) (r : Result Code.Claim Refusal) (q : IsRead P r (read_schedule I bs)) where
  pub was_read : {c : Code.Claim} → r ≡ Ok c → read_schedule I bs ≡ read P (as_claim c)
  was_read e = subst (λ (x : Result Code.Claim Refusal). IsRead P x (read_schedule I bs)) e q

  pub was-refused : {e : Refusal} → r ≡ Err e → OfTimetable I bs e
  was-refused {e} p = of_timetable I bs P e (subst (λ (x : Result Code.Claim Refusal). IsRead P x (read_schedule I bs)) p q)

-- what was read is in its bounds, and every task is placed
pub read-complete : (j : Job) (bs : List ℕ) (xs : StoredSchedule) (r : Result Code.Claim Refusal) → IsRead (schedule_of j xs) r (read_schedule (instance_in j) bs)
    → IfOk r (λ _. ScheduleInBounds j xs × AllPlaced j xs)
read-complete j bs xs (Ok c) q =
    let s = read-spellable j (entries_of xs) (as_claim c) bs q in (spelled-bounds j xs (as_claim c) s, spelled-placed j xs (as_claim c) s)
read-complete j bs xs (Err e) q = tt
