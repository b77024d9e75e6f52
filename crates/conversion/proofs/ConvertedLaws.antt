-- The tasks and files of the converted job, from what the accessors read.
use Prim.Native.Nat.{ℕ, ◌+◌, ◌<◌}
use mathlib.Core.Path.{◌≡◌}
use native.Mathlib.Omega.{arith}
use lib.ListN.{length}
use Rattle.rules.specs.Model.{blue, red, Instance, task_at, file_at, time_on, work_at, size_at, move_time_at}
use Rattle.rules.specs.Conversion.{added_count, converted}
use Rattle.rules.proofs.ConversionLaws.{task-old, file-added, file-old}
use Rattle.model.specs.declared.job.Job.{Job}
use Rattle.model.specs.Jobs.{instance_in}
use Rattle.model.proofs.JobLaws.{tasks-in, files-in}
use Rattle.conversion.proofs.CountLaws.{count_to, count_less, served-next}

module _ (j : Job) {n : ℕ} (e : n ≡ added_count (instance_in j)) where
  abbrev I : Instance
  I = instance_in j

  -- task i, without W
  pub task-from : {i : ℕ} → i < length j.tasks.now → {x y : ℕ} → x ≡ time_on blue (task_at I i) → y ≡ time_on red (task_at I i)
      → record { on_blue = x; on_red = y; work = 0 } ≡ task_at (converted I) (n + i)
  task-from {i} h p q = rw (e, task-old I i (omega (arith, tasks-in j)), p, q)

  -- the file of size W for task i
  pub file-for : {i : ℕ} → i < length j.tasks.now → {k w : ℕ} → k ≡ count_to j i → w ≡ work_at I i → (w ≡ 0 → ⊥)
      → record { maker = k; reader = n + i; size = w; move_time = 1 } ≡ file_at (converted I) k
  file-for {i} h q p z = rw (q, file-added I (count_to j i) (count_less j h p z), served-next j h p z, e, p)

  -- file k, with both its tasks shifted
  pub file-from : {k : ℕ} → k < length j.files.now → {x y z t : ℕ} → x ≡ (file_at I k).maker → y ≡ (file_at I k).reader → z ≡ size_at I k → t ≡ move_time_at I k
      → record { maker = n + x; reader = n + y; size = z; move_time = t } ≡ file_at (converted I) (n + k)
  file-from {k} h p q r s = rw (e, file-old I k (omega (arith, files-in j)), p, q, r, s)
