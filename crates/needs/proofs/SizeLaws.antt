-- The sizes of a task's files, along their chain.
use lib.ListN.{length}
use Prim.Native.Nat.{ℕ, suc, ◌+◌}
use mathlib.Core.Bool.{Bool, true, cond}
use mathlib.Core.Path.{◌≡◌, sym, ap, ◌∙◌}
use native.Mathlib.Omega.{arith}
use Rattle.rules.specs.Count.{sum_where}
use Rattle.rules.specs.Model.{file_count, size_at}
use Rattle.model.specs.declared.job.Job.{Job}
use Rattle.model.specs.Jobs.{instance_in}
use Rattle.model.proofs.JobLaws.{files-in}
use Rattle.links.specs.Chains.{NextOf}
use Rattle.links.proofs.ChainLaws.{sum_first, sum-behind}

-- the sum of the files below the one that the walk has come to
module _ (j : Job) (has : ℕ → Bool) where
  abbrev f : ℕ → ℕ
  f = size_at (instance_in j)

  pub sizes-first : {r : ℕ} → NextOf (length j.files.now) has 0 r → 0 ≡ sum_where r has f
  sizes-first next = sym (sum_first next has (λ k e. e) f)

  pub sizes-next : {k r sum size : ℕ} → NextOf (length j.files.now) has (suc k) r → has k ≡ true → size ≡ f k → sum ≡ sum_where k has f → sum + size ≡ sum_where r has f
  sizes-next {k} {r} {sum} {size} next here e x =
      let s : cond (has k) (f k) 0 ≡ size = rw (here, e) in
      omega (arith, x, sum-behind next has (λ k e. e) f)

  pub sizes-all : {n sum : ℕ} → n ≡ (length j.files.now) → sum ≡ sum_where n has f → sum ≡ sum_where (file_count (instance_in j)) has f
  sizes-all e x = x ∙ ap (λ n. sum_where n has f) (e ∙ sym (files-in j))
