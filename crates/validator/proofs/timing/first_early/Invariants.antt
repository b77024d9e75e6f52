-- `first_early` meets its contract. The invariant: the lowest reader of an early file of those passed, if there is one.
use lib.ListN.{length}
use Rattle.std.proofs.Common.{◌≡◌, ◌<◌}
use Rattle.std.specs.Prelude.{IfSome}
use Rattle.std.specs.Option.{unwrap_or}
use Rattle.rules.specs.Validity.{early}
use Rattle.model.specs.Jobs.{instance_in, schedule_in}
use Rattle.validator.specs.Least.{least_where}
use Rattle.validator.proofs.EarlyLaws.{reader_of}
use Rattle.validator.proofs.timing.first_early.Given as goal

abbrev pub invariant-loop-k : goal.invariant-loop-k
invariant-loop-k l =
    let I = instance_in l.t.job in
    let n = (length l.t.job.tasks.now) in
    IfSome l.first (λ i. i < n) × (unwrap_or l.first n ≡ least_where l.k n (early I (schedule_in l.t)) (reader_of I))
