-- `fault_line` meets its contract: the line of the text that the refusal names, or none.
use mathlib.Core.Path.{◌∙◌}
use Rattle.frames.proofs.MarkLaws.{line-in-sheet, line-in-paper, accepted-line, no-line}
use Rattle.frames.proofs.marker.fault_line.Goals as goal

pub returns-in_default : goal.returns-in_default
returns-in_default c = accepted-line c.args.sheet.now c.args.paper.now c.in_default.field-0 c.in_default.ensures.answer

pub returns-in-Sheet : goal.returns-in-Sheet
returns-in-Sheet c =
    c.line_at.ensures ∙ line-in-sheet c.args.sheet.now c.args.paper.now c.in-Err.refusal c.in-Sheet.is c.in-Err.ensures.answer

pub returns-in-Timetable : goal.returns-in-Timetable
returns-in-Timetable c =
    c.line_at-in-Timetable.ensures ∙ line-in-paper c.args.sheet.now c.args.paper.now c.in-Err.refusal c.in-Timetable.is c.in-Err.ensures.answer

pub returns-in_default-refusal : goal.returns-in_default-refusal
returns-in_default-refusal c =
    no-line c.args.sheet.now c.args.paper.now c.in-Err.refusal c.in-Err.ensures.answer c.in_default-refusal.not-Sheet c.in_default-refusal.not-Timetable
