-- Task numbers and sizes take few columns.
use Rattle.std.proofs.Common.{arith}
use Rattle.rules.proofs.NumeralLaws.{decimal-long}
use Rattle.framewatch.proofs.memory.file.Goals as goal

pub returns-then-moving : goal.returns-then-moving
returns-then-moving c =
    let m = decimal-long c.args.maker 2 (omega arith) (omega arith) in
    let r = decimal-long c.args.reader 2 (omega arith) (omega arith) in
    let s = decimal-long c.args.size 7 (omega arith) (omega arith) in
    omega arith

pub returns-else-moving : goal.returns-else-moving
returns-else-moving c =
    let m = decimal-long c.args.maker 2 (omega arith) (omega arith) in
    let r = decimal-long c.args.reader 2 (omega arith) (omega arith) in
    let s = decimal-long c.args.size 7 (omega arith) (omega arith) in
    omega arith
