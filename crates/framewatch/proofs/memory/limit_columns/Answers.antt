-- A limit takes at most `limit_columns`.
use Rattle.std.proofs.Common.{arith}
use Rattle.rules.proofs.NumeralLaws.{decimal-long}
use Rattle.framewatch.specs.Columns.{limit_columns}
use Rattle.framewatch.proofs.memory.limit_columns.Goals as goal

pub returns : goal.returns
returns c = omega (arith, decimal-long c.max.result limit_columns (omega arith) (omega arith))
