-- The arrays of a schedule that the due lines can spell meet what the code asks of them.
use mathlib.Core.Path.{ap}
use native.Mathlib.Omega.{arith}
use Rattle.rules.specs.Validity.{Claim}
use Rattle.rules.specs.Promises.{Spellable}
use Rattle.model.specs.declared.job.Job.{Job}
use Rattle.model.specs.declared.layout.Schedule.{Schedule as StoredSchedule}
use Rattle.model.specs.Layout.{entries_of}
use Rattle.model.specs.Jobs.{instance_in, schedule_of, ScheduleInBounds, AllPlaced}
use Rattle.model.proofs.JobLaws.{files-in, tasks-in, run-in, move-in}

module _ (j : Job) (xs : StoredSchedule) (claim : Claim) (spelled : Spellable (instance_in j) (schedule_of j xs) claim) where
  pub spelled-placed : AllPlaced j xs
  spelled-placed i h = omega (arith, (spelled.processors i (omega (arith, tasks-in j))).least, ap (λ r. r.processor) (run-in j (entries_of xs) i h))

  pub spelled-bounds : ScheduleInBounds j xs
  spelled-bounds = record {
    start = λ i h. omega (arith, (spelled.starts i (omega (arith, tasks-in j))).most, ap (λ r. r.start) (run-in j (entries_of xs) i h));
    move_start = λ k h. omega (arith, (spelled.move_starts k (omega (arith, files-in j))).most, move-in j (entries_of xs) k h);
  }
