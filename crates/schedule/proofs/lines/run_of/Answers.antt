-- `schedule::lines::run_of` meets its contract: the processors are those of the board.
use Rattle.std.proofs.Common.{rules}
use Rattle.schedule.proofs.LineLaws.{processor-count}
use Rattle.schedule.proofs.lines.run_of.Goals as goal

pub returns-then-between-3 : goal.returns-then-between-3
returns-then-between-3 c = let n = processor-count c.args.job.now in rw n (search rules)

pub returns-else-between : goal.returns-else-between
returns-else-between c = let n = processor-count c.args.job.now in rw n (search rules)
