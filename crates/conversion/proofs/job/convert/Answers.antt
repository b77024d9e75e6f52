-- `convert` meets its contract.
use Rattle.conversion.proofs.StoredLaws.{stored-all}
use Rattle.conversion.proofs.job.convert.Goals as goal

pub returns : goal.returns
returns c = stored-all c.args.job.now c.requires.added_value c.convert_files.ensures
