-- The files that each task makes, or reads, as chains: where a chain begins, and how it goes on behind a file.
use Rattle.std.specs.Prelude.{ℕ, suc, ◌≤◌, ◌<◌, Bool, true, false, ◌≡◌, get_or, Option, None, Some}
use Rattle.rules.specs.Model.{Instance, task_count, file_count}
use Rattle.rules.specs.Scheduling.{reads, makes}
use Rattle.links.specs.declared.chains.End.{End}
use Rattle.links.specs.declared.chains.End.TheVariants.{Maker, Reader}
use Rattle.links.specs.declared.chains.Chains.{Chains}

-- r is the least index from k on, below n, of which p holds; n if there is none
pub record NextOf (n : ℕ) (p : ℕ → Bool) (k r : ℕ) : Type 0 where
  pub from : k ≤ r
  pub within : r ≤ n
  pub passed : (j : ℕ) → k ≤ j → j < r → p j ≡ false
  pub holds : r < n → p r ≡ true

-- the index that a walk has come to, n at its end
abbrev pub index_or : ℕ → Option ℕ → ℕ
index_or n None = n
index_or n (Some k) = k

-- the same, as the code has it: the index, if there is one
pub record Next (n : ℕ) (p : ℕ → Bool) (k : ℕ) (r : Option ℕ) : Type 0 where
  pub exists : (j : ℕ) → r ≡ Some j → j < n
  pub next : NextOf n p k (index_or n r)

-- it is one of the indices of which p holds, or the end
pub record At (n : ℕ) (p : ℕ → Bool) (r : Option ℕ) : Type 0 where
  pub exists : (k : ℕ) → r ≡ Some k → k < n
  pub holds : (k : ℕ) → r ≡ Some k → p k ≡ true

-- whether file k is one of task i's at that end: one that it makes, or one that it reads
abbrev pub has_at : End → Instance → ℕ → ℕ → Bool
has_at Maker I i k = makes I i k
has_at Reader I i k = reads I i k

-- what is stored
abbrev pub first_of : Chains → ℕ → Option ℕ
first_of c i = get_or c.first i None

abbrev pub next_of : Chains → ℕ → Option ℕ
next_of c k = get_or c.next k None

-- each task's files are chained, rising: its first one, and behind each of its files the next
pub record Chained (I : Instance) (has : ℕ → ℕ → Bool) (c : Chains) : Type 0 where
  pub begins : (i : ℕ) → i < task_count I → Next (file_count I) (has i) 0 (first_of c i)
  pub goes_on : (i k : ℕ) → k < file_count I → has i k ≡ true → Next (file_count I) (has i) (suc k) (next_of c k)
