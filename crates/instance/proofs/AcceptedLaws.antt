-- What reading tells its caller: an accepted instance is well formed, and its numbers are in their bounds; a refusal has the sheet's fault and line.
use Prim.Native.Nat.{ℕ}
use mathlib.Core.Path.{◌≡◌, refl}
use mathlib.Core.List.{List}
use Rattle.rules.specs.InstanceText.{refused, accepted, read_instance}
use Rattle.rules.specs.Model.{Instance}
use Rattle.rules.specs.Promises.{WellFormed}
use Rattle.rules.proofs.SheetLaws.{sheet_exact}
use Rattle.rules.specs.Refusals.{as_fault}
use Rattle.rules.specs.declared.refusal.Fault.{Fault}
use Rattle.rules.specs.declared.refusal.Refusal.{Refusal}
use Rattle.rules.specs.declared.refusal.Refusal.TheVariants.{Sheet, Timetable, Overlap, Early, OverLimit, UntrueClaim, Stuck, Short, TooManyTasks, TooManyFiles}
use Rattle.model.specs.Layout.{instance_with, JobBounds}
use Rattle.model.specs.declared.layout.Numbers.{Numbers}
use Rattle.rules.specs.declared.Board.{Board}
use Rattle.model.proofs.LayoutLaws.{job-bounds}
use Rattle.instance.specs.Reads.{IsRefused}

-- a refusal of the sheet: its fault and its line
pub record OfSheet (sheet : List ℕ) (e : Refusal) : Type 0 where
  pub fault : Fault
  pub line : ℕ
  pub is : e ≡ Sheet fault line
  pub refused : read_instance sheet ≡ refused (as_fault fault) line

pub of_sheet : (sheet : List ℕ) (e : Refusal) → IsRefused e (read_instance sheet) → OfSheet sheet e
of_sheet sheet (Sheet w k) q = record { fault = w; line = k; is = refl; refused = q }
of_sheet sheet (Timetable w k) q = absurd q
of_sheet sheet (Overlap k) q = absurd q
of_sheet sheet (Early k) q = absurd q
of_sheet sheet (OverLimit t) q = absurd q
of_sheet sheet UntrueClaim q = absurd q
of_sheet sheet (Stuck k) q = absurd q
of_sheet sheet (Short k) q = absurd q
of_sheet sheet TooManyTasks q = absurd q
of_sheet sheet TooManyFiles q = absurd q

pub well-formed : (sheet : List ℕ) {I : Instance} → read_instance sheet ≡ accepted I → WellFormed I
well-formed sheet {I} e = ((sheet_exact sheet I).0 e).0

pub accepted-bounds : (sheet : List ℕ) (b : Board) (xs : Numbers) → read_instance sheet ≡ accepted (instance_with b xs) → JobBounds b xs.tasks.items xs.files.items
accepted-bounds sheet b xs e = job-bounds b xs.tasks.items xs.files.items (well-formed sheet e)
