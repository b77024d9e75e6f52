-- `all_runs` meets its contract. The invariant: the runs of the tasks passed are in the list.
use Rattle.std.proofs.Common.{◌≡◌, length}
use Rattle.model.specs.Jobs.{instance_in, schedule_in}
use Rattle.validator.specs.Records.{Records}
use Rattle.validator.proofs.exclusion.all_runs.Given as goal

abbrev pub invariant-loop-i : goal.invariant-loop-i
invariant-loop-i l = (length l.all.items ≡ l.i) × Records (instance_in l.t.job) (schedule_in l.t) l.i l.all.items
