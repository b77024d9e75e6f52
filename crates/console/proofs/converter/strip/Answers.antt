-- The buffer is long enough for the answer.
use Rattle.std.proofs.Common.{rules}
use Rattle.console.proofs.LongEnoughLaws.{long-enough-left}
use Rattle.console.proofs.converter.strip.Goals as goal

pub returns-clause-long_enough : goal.returns-clause-long_enough
returns-clause-long_enough c =
    long-enough-left c.args.out.now _ c.strip.result c.requires (search rules) c.args.sheet.now c.args.paper.now c.strip.ensures.answer c.strip.ensures.stripper_demands
