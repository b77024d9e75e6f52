-- An answer by 1 to 4 or 11 to 14 tells a text's fault and its line.
use Prim.Native.Nat.{ℕ, ◌≤◌}
use mathlib.Core.Bool.{cond, ◌||◌}
use mathlib.Core.Path.{◌≡◌, refl, sym, ap, ◌∙◌}
use mathlib.Core.List.{List}
use native.Mathlib.Omega.{arith}
use lib.Dec.{eqb}
use Rattle.rules.specs.Model.{Instance}
use Rattle.rules.specs.Validity.{Verdict}
use Rattle.rules.specs.Scheduling.{Planner}
use Rattle.rules.specs.Text.{Fault, too_long, malformed, out_of_range, undue, Source, in_sheet, in_timetable, fault_number}
use Rattle.rules.specs.InstanceText.{refused, accepted, read_instance}
use Rattle.rules.specs.ScheduleText.{refused as refused_timetable, read_schedule}
use Rattle.rules.specs.Calls.{Answer}
use Rattle.rules.specs.CallsExact.{Marking, by_sheet, by_timetable, by15, by16, by17, by18, accepts, Planned, by_text, by21, by31, by0}

-- ---- a fault and its number

abbrev fault_by : ℕ → Fault
fault_by n = cond (eqb n 1 || eqb n 11) too_long (cond (eqb n 2 || eqb n 12) malformed (cond (eqb n 3 || eqb n 13) out_of_range undue))

fault-by : (s : Source) (w : Fault) → fault_by (fault_number s w) ≡ w
fault-by in_sheet too_long = refl
fault-by in_sheet malformed = refl
fault-by in_sheet out_of_range = refl
fault-by in_sheet undue = refl
fault-by in_timetable too_long = refl
fault-by in_timetable malformed = refl
fault-by in_timetable out_of_range = refl
fault-by in_timetable undue = refl

-- the number tells the fault
pub fault-told : (s : Source) (w x : Fault) → fault_number s w ≡ fault_number s x → w ≡ x
fault-told s w x e = sym (fault-by s w) ∙ ap fault_by e ∙ fault-by s x

pub sheet-numbers : (w : Fault) → (1 ≤ fault_number in_sheet w) × (fault_number in_sheet w ≤ 4)
sheet-numbers too_long = (omega arith, omega arith)
sheet-numbers malformed = (omega arith, omega arith)
sheet-numbers out_of_range = (omega arith, omega arith)
sheet-numbers undue = (omega arith, omega arith)

pub timetable-numbers : (w : Fault) → (11 ≤ fault_number in_timetable w) × (fault_number in_timetable w ≤ 14)
timetable-numbers too_long = (omega arith, omega arith)
timetable-numbers malformed = (omega arith, omega arith)
timetable-numbers out_of_range = (omega arith, omega arith)
timetable-numbers undue = (omega arith, omega arith)

-- ---- the marker
module _ {sheet paper : List ℕ} (w : Fault) (k : ℕ) where
  pub marked-by-sheet : {v : Verdict} → Marking sheet paper v → v.number ≡ fault_number in_sheet w → v.place ≡ k → read_instance sheet ≡ refused w k
  marked-by-sheet (by_sheet x j e) n p = let q : x ≡ w = fault-told in_sheet x w n in rw (← q, ← p) e
  marked-by-sheet (by_timetable I e x j f) n p = absurd (omega (arith, sheet-numbers w, timetable-numbers x))
  marked-by-sheet (by15 x j f) n p = absurd (omega (arith, sheet-numbers w))
  marked-by-sheet (by16 x j a f) n p = absurd (omega (arith, sheet-numbers w))
  marked-by-sheet (by17 x j a b f) n p = absurd (omega (arith, sheet-numbers w))
  marked-by-sheet (by18 x a b c d) n p = absurd (omega (arith, sheet-numbers w))
  marked-by-sheet (accepts x d) n p = absurd (omega (arith, sheet-numbers w))

  pub marked-by-paper : {v : Verdict} (I : Instance) → read_instance sheet ≡ accepted I → Marking sheet paper v
      → v.number ≡ fault_number in_timetable w → v.place ≡ k → read_schedule I paper ≡ refused_timetable w k
  marked-by-paper I s (by_sheet x j e) n p = absurd (omega (arith, timetable-numbers w, sheet-numbers x))
  marked-by-paper I s (by_timetable J e x j f) n p =
      let q : x ≡ w = fault-told in_timetable x w n in
      let r : J ≡ I = cc in
      rw (← q, ← p, ← r) f
  marked-by-paper I s (by15 x j f) n p = absurd (omega (arith, timetable-numbers w))
  marked-by-paper I s (by16 x j a f) n p = absurd (omega (arith, timetable-numbers w))
  marked-by-paper I s (by17 x j a b f) n p = absurd (omega (arith, timetable-numbers w))
  marked-by-paper I s (by18 x a b c d) n p = absurd (omega (arith, timetable-numbers w))
  marked-by-paper I s (accepts x d) n p = absurd (omega (arith, timetable-numbers w))

-- ---- a planner
module _ {R : Planner} {sheet buffer : List ℕ} (w : Fault) (k : ℕ) where
  pub planned-by-sheet : {a : Answer} → Planned R sheet buffer a → a.number ≡ fault_number in_sheet w → a.place ≡ k → read_instance sheet ≡ refused w k
  planned-by-sheet (by_text x j e) n p = let q : x ≡ w = fault-told in_sheet x w n in rw (← q, ← p) e
  planned-by-sheet (by21 I e j t o) n p = absurd (omega (arith, sheet-numbers w))
  planned-by-sheet (by31 I e P t o l) n p = absurd (omega (arith, sheet-numbers w))
  planned-by-sheet (by0 I e P t o l) n p = absurd (omega (arith, sheet-numbers w))
