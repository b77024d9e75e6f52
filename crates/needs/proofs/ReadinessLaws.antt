-- Which tasks are ready, by what the code finds along the chain of the files that a task reads.
use lib.ListN.{length}
use Prim.Native.Nat.{ℕ, suc, ◌<◌}
use mathlib.Core.Bool.{Bool, true, false, not}
use mathlib.Core.Path.{◌≡◌, sym, ap, ◌∙◌}
use native.Mathlib.Omega.{arith}
use Rattle.rules.specs.Count.{any_below}
use Rattle.rules.specs.Model.{Instance, Schedule, file_at, file_count, is_placed, run_at}
use Rattle.rules.specs.Scheduling.{reads, missing, ready}
use Rattle.rules.proofs.Tests.{and_no}
use Rattle.rules.proofs.CountLaws.{any_some}
use Rattle.model.specs.declared.job.Job.{Job}
use Rattle.model.specs.Layout.{Entries}
use Rattle.model.specs.Jobs.{instance_in, schedule_by}
use Rattle.model.proofs.JobLaws.{files-in}
use Rattle.links.specs.Chains.{NextOf}
use Rattle.links.proofs.ChainLaws.{any-first, any-behind}

module _ (j : Job) (L : Entries) (i : ℕ) where
  abbrev I : Instance
  I = instance_in j

  abbrev P : Schedule
  P = schedule_by j L

  -- only a file that is read is missing
  missing-only : (k : ℕ) → reads I i k ≡ false → missing I P i k ≡ false
  missing-only k e = rw e

  -- none before the first file that it reads
  pub missing-first : {r : ℕ} → NextOf (length j.files.now) (reads I i) 0 r → any_below r (missing I P i) ≡ false
  missing-first next = any-first next (missing I P i) missing-only

  -- file k, which it reads, by whether the maker is placed
  module _ {k : ℕ} (h : k < (length j.files.now)) (read : reads I i k ≡ true) {m : ℕ} {x : Bool} (maker : m ≡ (file_at I k).maker) (q : x ≡ is_placed (run_at P m)) where
    pub missing_at : missing I P i k ≡ not x
    missing_at = rw (read, q, maker)

    -- and none up to the next one
    pub missing-skip : {r : ℕ} → NextOf (length j.files.now) (reads I i) (suc k) r → any_below k (missing I P i) ≡ false → not x ≡ false
        → any_below r (missing I P i) ≡ false
    missing-skip next none here = any-behind next (missing I P i) missing-only ∙ rw (none, missing_at, here)

  -- all files, of a task that is placed or not
  module _ (h : i < (length j.tasks.now)) {x : Bool} (q : x ≡ is_placed (run_at P i)) where
    pub ready-placed : x ≡ true → false ≡ ready I P i
    unfolding ready
    ready-placed t = rw (← q, t)

    pub ready-missing : {k : ℕ} → k < (length j.files.now) → {y : Bool} → missing I P i k ≡ y → y ≡ true → false ≡ ready I P i
    unfolding ready
    ready-missing {k} l g y =
        let e : any_below (file_count I) (missing I P i) ≡ true = any_some (file_count I) (missing I P i) k (omega (arith, files-in j)) (g ∙ y) in
        rw e (sym (and_no (not (is_placed (run_at P i)))))

    pub ready-found : x ≡ false → {n : ℕ} → n ≡ (length j.files.now) → any_below n (missing I P i) ≡ false → true ≡ ready I P i
    unfolding ready
    ready-found u e a =
        let z : any_below (file_count I) (missing I P i) ≡ false = ap (λ n. any_below n (missing I P i)) (files-in j ∙ sym e) ∙ a in
        rw (← q, u, z)
