-- `instance::writer::instance_size` meets its contract: no sheet has more bytes than the count can hold.
use native.Mathlib.Omega.{arith}
use Rattle.instance.proofs.ShortLaws.{sheet-short}
use Rattle.instance.proofs.writer.instance_size.Goals as goal

pub returns : goal.returns
returns c = omega (arith, c.put_sheet.ensures, sheet-short c.args.job.now)
