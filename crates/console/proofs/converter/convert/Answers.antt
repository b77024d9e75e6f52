-- The buffer is long enough for the answer.
use Rattle.std.proofs.Common.{rules}
use Rattle.console.proofs.LongEnoughLaws.{long-enough-sheet}
use Rattle.console.proofs.converter.convert.Goals as goal

pub returns-clause-long_enough : goal.returns-clause-long_enough
returns-clause-long_enough c =
    long-enough-sheet c.args.out.now _ c.convert.result c.requires (search rules) c.args.sheet.now c.convert.ensures.answer c.convert.ensures.converter_demands
