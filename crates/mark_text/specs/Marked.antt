-- What marking a timetable found, with the schedule that was read.
use Rattle.std.specs.Prelude.{ℕ, List, ◌≡◌}
use Rattle.rules.specs.Model.{Instance, Schedule}
use Rattle.rules.specs.Validity.{Claim, Verdict, refused_by, judge}
use Rattle.rules.specs.Text.{Fault, in_timetable, fault_number}
use Rattle.rules.specs.ScheduleText.{refused, read, read_schedule}

-- the timetable is refused by its fault; or P was read of it, and is judged
pub data Marked (I : Instance) (timetable : List ℕ) (P : Schedule) : Verdict → Type 0 where
  by_text : (w : Fault) (k : ℕ) → read_schedule I timetable ≡ refused w k → Marked I timetable P (refused_by (fault_number in_timetable w) k)
  judges : (claim : Claim) → read_schedule I timetable ≡ read P claim → Marked I timetable P (judge I P claim)
