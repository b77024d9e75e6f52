-- The chains of the files from the last one down: none, one file more, all.
use Prim.Native.Nat.{ℕ, suc, ◌≤◌, ◌<◌}
use mathlib.Core.Bool.{Bool, true, false}
use mathlib.Core.Path.{◌≡◌, sym, ◌∙◌}
use native.Mathlib.Omega.{arith}
use native.Mathlib.Decide.{ℕ_discrete}
use lib.Dec.{eqb}
use lib.ListN.{set, length, replicate, get_or-replicate}
use lib.Seq.{get_or-set_same, get_or-set_other}
use borrow.Author.Tests.{eqb-true, eq-eqb, ne_eqb}
use Rattle.rules.specs.Limits.{max_tasks, max_files}
use Rattle.rules.specs.Model.{Instance, task_count, file_count}
use Rattle.model.specs.declared.job.Job.{Job}
use Rattle.model.specs.Jobs.{instance_in}
use Rattle.model.proofs.JobLaws.{tasks-in, files-in}
use Rattle.std.specs.Prelude.{Option, None, Some}
use Rattle.std.proofs.lemmas.Option.{none-some, same_Some}
use Rattle.links.specs.declared.chains.Chains.{Chains}
use Rattle.links.specs.Chains.{Next, first_of, next_of, Chained}

-- the files from k on are chained
pub record ChainedFrom (I : Instance) (has : ℕ → ℕ → Bool) (c : Chains) (k : ℕ) : Type 0 where
  pub begins : (i : ℕ) → i < task_count I → Next (file_count I) (has i) k (first_of c i)
  pub goes_on : (i j : ℕ) → k ≤ j → j < file_count I → has i j ≡ true → Next (file_count I) (has i) (suc j) (next_of c j)

-- ---- the next index

module _ {n : ℕ} {p : ℕ → Bool} {k : ℕ} where
  -- there is none
  next-none : {r : Option ℕ} → k ≡ n → r ≡ None → Next n p k r
  next-none d e = rw e (record {
    exists = λ j q. absurd (none-some j q);
    next = record {
      from = omega arith;
      within = omega arith;
      passed = λ j a b. absurd (omega arith);
      holds = λ l. absurd (omega arith);
    };
  })

  -- it is k itself
  next_here : {r : Option ℕ} → k < n → p k ≡ true → r ≡ Some k → Next n p k r
  next_here l h e = rw e (record {
    exists = λ j q. let z : k ≡ j = same_Some k j q in omega arith;
    next = record {
      from = omega arith;
      within = omega arith;
      passed = λ j a b. absurd (omega arith);
      holds = λ _. h;
    };
  })

  -- it is not k
  next-later : {r : Option ℕ} → p k ≡ false → Next n p (suc k) r → Next n p k r
  next-later {r} h g =
      let f = g.next in record {
        exists = g.exists;
        next = record {
          from = omega (arith, f.from);
          within = f.within;
          passed = λ j a b. elim (ℕ_discrete j k) [
            | yes e ↦ rw e h
            | no d ↦ f.passed j (omega arith) b
          ];
          holds = f.holds;
        };
      }

-- ---- the chains

module _ (j : Job) where
  abbrev I : Instance
  I = instance_in j

  -- before any file
  abbrev pub no_chains : Chains
  no_chains = record { first = replicate max_tasks None; next = replicate max_files None }

  -- file k before those of its task t behind it
  abbrev pub with_link : Chains → ℕ → ℕ → Chains
  with_link c k t = record { first = set c.first t (Some k); next = set c.next k (first_of c t) }

  module _ (has : ℕ → ℕ → Bool) where
    pub chained-none : (length j.tasks.now) ≤ max_tasks → ChainedFrom I has no_chains (length j.files.now)
    chained-none l = record {
      begins = λ i h. next-none (sym (files-in j)) (get_or-replicate max_tasks i None None (omega (arith, tasks-in j)));
      goes_on = λ i l a u _. absurd (omega (arith, files-in j));
    }

    pub chained-turn : {c : Chains} {k t : ℕ} → k < (length j.files.now) → t < (length j.tasks.now) → (length j.tasks.now) ≤ length c.first → (length j.files.now) ≤ length c.next
        → ((i : ℕ) → eqb t i ≡ has i k) → {m : ℕ} → m ≡ suc k → ChainedFrom I has c m → ChainedFrom I has (with_link c k t) k
    chained-turn {c} {k} {t} u l few room at e g =
        let f : ChainedFrom I has c (suc k) = rw e at g in
        let in-files : k < file_count I = omega (arith, files-in j) in
        let in-tasks : t < task_count I = omega (arith, tasks-in j) in
        record {
          begins = λ i h. elim (ℕ_discrete i t) [
            | yes e ↦ next_here in-files (sym (at i) ∙ eq-eqb t i (sym e)) (rw e (get_or-set_same c.first t (Some k) None (omega arith)))
            | no d ↦ rw (get_or-set_other c.first t i (Some k) None d) (next-later (sym (at i) ∙ ne_eqb t i (λ e. d (sym e))) (f.begins i h))
          ];
          goes_on = λ i j a h y. elim (ℕ_discrete j k) [
            | yes e ↦
                let mine : t ≡ i = eqb-true t i (at i ∙ rw e at y) in
                rw (e, get_or-set_same c.next k (first_of c t) None (omega arith), ← mine) (f.begins t in-tasks)
            | no d ↦ rw (get_or-set_other c.next k j (first_of c t) None d) (f.goes_on i j (omega arith) h y)
          ];
        }

    pub chained-all : {c : Chains} {k : ℕ} → k ≡ 0 → ChainedFrom I has c k → Chained I has c
    chained-all {k} e f =
        let g = rw e at f in record {
          begins = g.begins;
          goes_on = λ i j h y. g.goes_on i j (omega arith) h y;
        }
