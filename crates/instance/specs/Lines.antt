-- The code's line, as the rules have it.
use Rattle.std.specs.Prelude.{ℕ, List, Result, Ok, Err}
use Rattle.std.proofs.Math.Option.{some}
use Rattle.rules.specs.Text.{Reading, wrong, right}
use Rattle.rules.specs.Refusals.{as_fault}
use Rattle.rules.specs.declared.refusal.Fault.{Fault}
use Rattle.rules.specs.BoardType.{side_from}
use Rattle.rules.specs.Limits.{task_numbers}
use Rattle.rules.specs.Promises.{In}
use Rattle.rules.specs.InstanceText.{InstanceLine, board_line, task_line, file_line, instance_line}
use Rattle.instance.specs.declared.line.Line.{Line}
use Rattle.instance.specs.declared.line.Line.TheVariants.{Board, Task, File}
use Rattle.text.specs.declared.lines.Taken.{Taken}
use Rattle.text.specs.Due.{TakesDue}

abbrev pub as_line : Line → InstanceLine
as_line (Board b) = board_line (side_from b.blue) (side_from b.red)
as_line (Task i b r w) = task_line i (record { on_blue = b; on_red = r; work = w })
as_line (File i j f c) = file_line i j f c

abbrev pub as_reading : Result Line Fault → Reading InstanceLine
as_reading (Ok l) = right (as_line l)
as_reading (Err w) = wrong (as_fault w)

-- its task numbers are in their range
abbrev pub Numbered : Line → Type 0
Numbered (Board b) = Unit {0}
Numbered (Task i b r w) = In task_numbers i
Numbered (File i j f c) = In task_numbers i × In task_numbers j

-- the next line of a text: what it says, and the text behind it
abbrev pub NextLine : List ℕ → Result (Taken Line) Fault → Type 0
NextLine = TakesDue instance_line some as_line
