-- `schedule::writer::put_move` meets its contract: no number has more than 20 digits.
use native.Mathlib.Omega.{arith}
use Rattle.rules.specs.ScheduleText.{move_form}
use Rattle.text.proofs.SizeLaws.{end, word, line-short}
use Rattle.schedule.proofs.writer.put_move.Goals as goal

pub returns-clause-upper_bound : goal.returns-clause-upper_bound
returns-clause-upper_bound g c = omega (arith, line-short move_form (word c.ranges.i.fits (word c.ranges.j.fits (word c.ranges.start.fits end))))
