-- `early_file` meets its contract.
use Rattle.validator.proofs.EarlyLaws.{early_from}
use Rattle.validator.proofs.timing.early_file.Goals as goal

pub returns : goal.returns
returns c = early_from c.file_times.ensures.times_of c.too_early.ensures
