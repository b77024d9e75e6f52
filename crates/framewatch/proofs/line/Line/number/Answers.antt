-- A number of 64 bits fits into 20 columns.
use Rattle.std.proofs.Common.{arith}
use Rattle.rules.proofs.NumeralLaws.{decimal-long}
use Rattle.framewatch.specs.Columns.{most_digits}
use Rattle.framewatch.proofs.line.Line.number.Goals as goal

pub write_number-k-requires : goal.write_number-k-requires
write_number-k-requires c = decimal-long c.args.n most_digits (omega arith) (omega arith)
