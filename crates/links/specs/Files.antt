-- The files of a task at an end, one after the other.
use Rattle.std.specs.Prelude.{ℕ, suc, ◌≡◌, length, Option, Some}
use Rattle.model.specs.declared.job.Job.{Job}
use Rattle.model.specs.Jobs.{instance_in}
use Rattle.links.specs.declared.chains.End.{End}
use Rattle.links.specs.declared.files.Files.{Files}
use Rattle.links.specs.Chains.{NextOf, Next, index_or, has_at}

-- the file that comes next, the number of files at the end
abbrev pub place : Files → ℕ
place s = index_or (length s.links.now.job.files.now) s.at

-- the files of that job that have the task at that end
pub record Of (j : Job) (end : End) (task : ℕ) (s : Files) : Type 0 where
  pub same_job : s.links.now.job ≡ j
  pub same_end : s.end ≡ end
  pub same_task : s.task ≡ task

-- all of them
pub record From (j : Job) (end : End) (task : ℕ) (s : Files) : Type 0 where
  pub of : Of j end task s
  pub first : NextOf (length j.files.now) (has_at end (instance_in j) task) 0 (place s)

-- a file is given and the next one behind it is due, or none is left
pub record GivesFile (old : Files) (r : Option ℕ) (new : Files) : Type 0 where
  pub of : Of old.links.now.job old.end old.task new
  pub item : r ≡ old.at
  pub next : (k : ℕ) → r ≡ Some k → Next (length old.links.now.job.files.now) (has_at old.end (instance_in old.links.now.job) old.task) (suc k) new.at
