-- The marker's answer, by what was read of the timetable.
use Prim.Native.Nat.{ℕ}
use mathlib.Core.List.{List}
use mathlib.Core.Path.{◌≡◌, sym, ap}
use Rattle.rules.specs.Model.{Instance, Schedule}
use Rattle.rules.specs.Validity.{refused_by, judge, Verdict}
use Rattle.rules.specs.ScheduleText.{read_schedule}
use Rattle.rules.specs.Calls.{mark_read, mark_on}
use Rattle.std.specs.Prelude.{Result, Ok, Err}
use Rattle.rules.specs.declared.refusal.Refusal.{Refusal}
use Rattle.rules.specs.Refusals.{as_fault, refusal_number, refusal_place}
use Rattle.model.specs.declared.claim.Claim.{Claim}
use Rattle.model.specs.Claims.{as_claim}
use Rattle.schedule.specs.Reading.{IsRead}
use Rattle.schedule.proofs.ReadLaws.{was_read, was-refused}
use Rattle.mark_text.specs.Marked.{Marked, by_text, judges}

module _ (I : Instance) (timetable : List ℕ) (P : Schedule) (r : Result Claim Refusal) (read : IsRead P r (read_schedule I timetable)) where
  pub paper-judged : {c : Claim} {v : Verdict} → r ≡ Ok c → v ≡ judge I P (as_claim c) → Marked I timetable P v
  paper-judged {c} e q = rw q (judges (as_claim c) (was_read I timetable P r read e))

  pub paper-refused : {e : Refusal} → r ≡ Err e → Marked I timetable P (refused_by (refusal_number e) (refusal_place e))
  paper-refused q = let t = was-refused I timetable P r read q in rw t.is (by_text (as_fault t.fault) t.line t.refused)

-- whatever was read, the verdict is the marker's
pub marked-is : (I : Instance) (timetable : List ℕ) {P : Schedule} {v : Verdict} → Marked I timetable P v → v ≡ mark_on I timetable
marked-is I timetable (by_text w k e) = sym (ap (mark_read I) e)
marked-is I timetable (judges claim e) = sym (ap (mark_read I) e)
