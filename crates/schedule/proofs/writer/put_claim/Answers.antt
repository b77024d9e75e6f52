-- `schedule::writer::put_claim` meets its contract: no number has more than 20 digits.
use native.Mathlib.Omega.{arith}
use Rattle.rules.specs.ScheduleText.{claim_form}
use Rattle.text.proofs.SizeLaws.{end, word, line-short}
use Rattle.schedule.proofs.writer.put_claim.Goals as goal

pub returns-clause-upper_bound : goal.returns-clause-upper_bound
returns-clause-upper_bound g c = omega (arith, line-short claim_form (word c.ranges.span.fits (word c.ranges.blue.fits (word c.ranges.red.fits end))))
