-- The code's line, as the rules have it.
use Rattle.std.specs.Prelude.{ℕ, List, Result, Ok, Err}
use Rattle.std.proofs.Math.Option.{some}
use Rattle.rules.specs.Model.{Instance}
use Rattle.rules.specs.Text.{Reading, wrong, right}
use Rattle.rules.specs.Refusals.{as_fault}
use Rattle.rules.specs.declared.refusal.Fault.{Fault}
use Rattle.rules.specs.ScheduleText.{ScheduleLine, run_line, move_line, claim_line, schedule_line}
use Rattle.text.specs.declared.lines.Taken.{Taken}
use Rattle.text.specs.Due.{TakesDue}
use Rattle.model.specs.Claims.{as_claim}
use Rattle.schedule.specs.declared.lines.Line as Code
use Rattle.schedule.specs.declared.lines.Line.TheVariants.{Run, Move, Claim as ClaimIs}

abbrev pub as_line : Code.Line → ScheduleLine
as_line (Run i p s) = run_line i (record { processor = p; start = s })
as_line (Move i j t) = move_line i j t
as_line (ClaimIs c) = claim_line (as_claim c)

abbrev pub as_reading : Result Code.Line Fault → Reading ScheduleLine
as_reading (Ok l) = right (as_line l)
as_reading (Err w) = wrong (as_fault w)

-- the next line of a text: what it says, and the text behind it
abbrev pub NextLine : Instance → List ℕ → Result (Taken Code.Line) Fault → Type 0
NextLine I = TakesDue (schedule_line I) some as_line
