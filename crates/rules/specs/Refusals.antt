-- What the source's `Fault` and `Refusal` say in the words of the rules: the number and the place of each case, document 01's, and 41 and 42 of Order 7.
use Rattle.std.specs.Prelude.{ℕ, List, ◌++◌, codes}
use Rattle.std.specs.Fmt.{decimal}
use Rattle.rules.specs.Text as Text
use Rattle.rules.specs.declared.refusal.Fault.{Fault}
use Rattle.rules.specs.declared.refusal.Fault.TheVariants.{TooLong, Malformed, OutOfRange, Undue}
use Rattle.rules.specs.declared.refusal.Refusal.{Refusal}
use Rattle.rules.specs.declared.refusal.Refusal.TheVariants.{Sheet, Timetable, Overlap, Early, OverLimit, UntrueClaim, Stuck, Short, TooManyTasks, TooManyFiles}

abbrev pub as_fault : Fault → Text.Fault
as_fault TooLong = Text.too_long
as_fault Malformed = Text.malformed
as_fault OutOfRange = Text.out_of_range
as_fault Undue = Text.undue

abbrev pub refusal_number : Refusal → ℕ
refusal_number (Sheet w k) = Text.fault_number Text.in_sheet (as_fault w)
refusal_number (Timetable w k) = Text.fault_number Text.in_timetable (as_fault w)
refusal_number (Overlap k) = 15
refusal_number (Early k) = 16
refusal_number (OverLimit t) = 17
refusal_number UntrueClaim = 18
refusal_number (Stuck k) = 21
refusal_number (Short k) = 31
refusal_number TooManyTasks = 41
refusal_number TooManyFiles = 42

abbrev pub refusal_place : Refusal → ℕ
refusal_place (Sheet w k) = k
refusal_place (Timetable w k) = k
refusal_place (Overlap k) = k
refusal_place (Early k) = k
refusal_place (OverLimit t) = t
refusal_place UntrueClaim = 0
refusal_place (Stuck k) = k
refusal_place (Short k) = k
refusal_place TooManyTasks = 0
refusal_place TooManyFiles = 0

-- what the programs print of it: its number and its place in decimal
abbrev pub refusal_text : Refusal → List ℕ
refusal_text r = codes "(refused " ++ decimal (refusal_number r) ++ codes " " ++ decimal (refusal_place r) ++ codes ")"
