-- The counts of a job take few columns.
use lib.ListN.{length}
use Rattle.std.proofs.Common.{arith}
use Rattle.rules.proofs.NumeralLaws.{decimal-long}
use Rattle.framewatch.proofs.trace.print_heading.Goals as goal

pub text-requires-3 : goal.text-requires-3
text-requires-3 g c =
    let t = decimal-long (length c.args.job.now.tasks.now) 2 (omega arith) (omega arith) in
    let f = decimal-long (length c.args.job.now.files.now) 3 (omega arith) (omega arith) in
    omega arith
