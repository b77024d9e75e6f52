-- A walk along the files of a task at an end.
use lib.ListN.{length}
use Prim.Native.Nat.{ℕ, suc, ◌≤◌, ◌<◌}
use mathlib.Core.Bool.{Bool, true}
use mathlib.Core.Path.{◌≡◌, refl, sym, ◌∙◌}
use native.Mathlib.Omega.{arith}
use Rattle.std.specs.Prelude.{Option, None, Some}
use Rattle.rules.specs.Model.{file_count}
use Rattle.model.specs.declared.job.Job.{Job}
use Rattle.model.specs.Jobs.{instance_in}
use Rattle.model.proofs.JobLaws.{files-in}
use Rattle.links.specs.declared.chains.End.{End}
use Rattle.links.specs.declared.files.Files.{Files}
use Rattle.links.specs.Chains.{index_or, Next, NextOf, At, has_at}
use Rattle.links.specs.Files.{place, Of, From, GivesFile}

-- by the count of a job
pub next-in : (j : Job) {p : ℕ → Bool} {k : ℕ} {r : Option ℕ} → Next (file_count (instance_in j)) p k r → Next (length j.files.now) p k r
next-in j x = rw (files-in j) at x

pub next-at : {n : ℕ} {p : ℕ → Bool} {k : ℕ} {r : Option ℕ} → Next n p k r → At n p r
next-at {n} {p} x = record {
  exists = x.exists;
  holds = λ j e. let h : j < n → p j ≡ true = rw e at x.next.holds in h (x.exists j e);
}

-- no place is past the end
within : (n : ℕ) {p : ℕ → Bool} (r : Option ℕ) → At n p r → index_or n r ≤ n
within n None a = omega arith
within n (Some k) a = omega (arith, a.exists k refl)

-- ---- a walk along the files of a task, from the first one on

module _ {j : Job} {end : End} {task : ℕ} where
  pub begins : {q s : Files} → From j end task q → s ≡ q → From j end task s
  begins from e = rw e from

  reached : {t : Files} → Of j end task t → At (length j.files.now) (has_at end (instance_in j) task) t.at
  reached {t} o = rw (o.same_job, o.same_end, o.same_task) at t.reached

  pub place-within : {t : Files} → Of j end task t → place t ≤ length j.files.now
  place-within {t} o = rw o.same_job (within (length j.files.now) t.at (reached o))

-- from t it gives file k, and goes on to u
pub record Turn (j : Job) (end : End) (task : ℕ) (t : Files) (k : ℕ) (u : Files) : Type 0 where
  pub came : place t ≡ k
  pub exists : k < length j.files.now
  pub holds : has_at end (instance_in j) task k ≡ true
  pub of : Of j end task u
  pub next : NextOf (length j.files.now) (has_at end (instance_in j) task) (suc k) (place u)

module _ {j : Job} {end : End} {task : ℕ} {t : Files} (o : Of j end task t) {r : Option ℕ} {u : Files} (g : GivesFile t r u) where
  pub turn : {k : ℕ} → r ≡ Some k → Turn j end task t k u
  turn {k} e =
      let f : t.at ≡ Some k = sym g.item ∙ e in
      let next : Next (length j.files.now) (has_at end (instance_in j) task) (suc k) u.at = rw (o.same_job, o.same_end, o.same_task) at (g.next k e) in
      record {
        came = rw f;
        exists = (reached o).exists k f;
        holds = (reached o).holds k f;
        of = record { same_job = g.of.same_job ∙ o.same_job; same_end = g.of.same_end ∙ o.same_end; same_task = g.of.same_task ∙ o.same_task };
        next = rw (g.of.same_job, o.same_job) next.next;
      }

  -- or it has come to the end
  pub ended : r ≡ None → place t ≡ length j.files.now
  ended e = let f : t.at ≡ None = sym g.item ∙ e in rw (f, o.same_job)
