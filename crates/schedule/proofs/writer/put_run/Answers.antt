-- `schedule::writer::put_run` meets its contract: no number has more than 20 digits.
use native.Mathlib.Omega.{arith}
use Rattle.rules.specs.ScheduleText.{run_form}
use Rattle.text.proofs.SizeLaws.{end, word, line-short}
use Rattle.schedule.proofs.writer.put_run.Goals as goal

pub returns-clause-upper_bound : goal.returns-clause-upper_bound
returns-clause-upper_bound g c = omega (arith, line-short run_form (word c.ranges.i.fits (word c.ranges.processor.fits (word c.ranges.start.fits end))))
