-- The simulator's answer, by what was read of the board sheet.
use Prim.Native.Nat.{ℕ}
use mathlib.Core.List.{List}
use mathlib.Core.Path.{◌≡◌, refl, sym, ◌∙◌}
use Rattle.rules.specs.Model.{Instance}
use Rattle.rules.specs.Text.{in_sheet, fault_number}
use Rattle.rules.specs.InstanceText as Sheet
use Rattle.rules.specs.InstanceText.{read_instance}
use Rattle.rules.specs.ScheduleText as Paper
use Rattle.rules.specs.ScheduleText.{read_schedule}
use Rattle.rules.specs.Simulation.{refused_text, simulate_on, simulate_by, simulate}
use Rattle.rules.proofs.SimulatorLaws.{simulate-sheet}
use Rattle.rules.specs.declared.refusal.Refusal.{Refusal}
use Rattle.rules.specs.Refusals.{refusal_number, refusal_place}
use Rattle.instance.specs.Reads.{IsRefused}
use Rattle.instance.proofs.AcceptedLaws.{of_sheet}

pub simulate-accepted : (sheet timetable : List ℕ) (made steps : ℕ) (I : Instance) → read_instance sheet ≡ Sheet.accepted I
    → simulate sheet timetable made steps ≡ simulate_on I timetable made steps
unfolding simulate_by
simulate-accepted sheet timetable made steps I e = by_read (read_schedule I timetable) refl
  where
    by_read : (x : Paper.ScheduleRead) → read_schedule I timetable ≡ x → simulate sheet timetable made steps ≡ simulate_on I timetable made steps
    by_read (Paper.refused w k) f = rw (e, f, simulate_by)
    by_read (Paper.read P c) f = rw (e, f, simulate_by)

pub simulated-refused : (sheet timetable : List ℕ) (made steps : ℕ) (e : Refusal) → IsRefused e (read_instance sheet)
    → refused_text (refusal_number e) (refusal_place e) ≡ simulate sheet timetable made steps
simulated-refused sheet timetable made steps e q =
    let f = of_sheet sheet e q in rw f.is (sym (simulate-sheet sheet timetable _ f.line f.refused made steps))
