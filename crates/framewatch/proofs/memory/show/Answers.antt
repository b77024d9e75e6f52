-- Totals and limits take at most `limit_columns`.
use Rattle.std.proofs.Common.{arith}
use Rattle.rules.proofs.NumeralLaws.{decimal-long}
use Rattle.framewatch.specs.Columns.{limit_columns}
use Rattle.framewatch.proofs.memory.show.Goals as goal

pub right-row-requires : goal.right-row-requires
right-row-requires g c =
    let h = decimal-long c.total-held.result limit_columns (omega arith) (omega arith) in
    omega arith

pub files-requires : goal.files-requires
files-requires g c =
    let h = decimal-long c.total-held.result limit_columns (omega arith) (omega arith) in
    let m = decimal-long c.by_colour-limit.result limit_columns (omega arith) (omega arith) in
    omega arith
