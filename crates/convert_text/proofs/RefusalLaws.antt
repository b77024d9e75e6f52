-- 41 and 42, by the counts of a job and the tasks to add.
use Prim.Native.Nat.{ℕ, ◌+◌, ◌≤◌, ◌<◌}
use mathlib.Core.List.{List}
use mathlib.Core.Path.{◌≡◌}
use native.Mathlib.Omega.{arith}
use lib.ListN.{length}
use borrow.Author.Tests.{lt-ltb, le-ltb}
use Rattle.rules.specs.Limits.{max_tasks, max_files}
use Rattle.rules.specs.Model.{Instance, task_count, file_count}
use Rattle.rules.specs.Conversion.{added_count, converted, Output, unwritten, if_convertible}
use Rattle.rules.specs.ConversionPromises.{Convertible}
use Rattle.rules.proofs.ConversionLaws.{tasks-converted, files-converted}
use Rattle.rules.specs.Text.{in_sheet, in_timetable}
use Rattle.rules.specs.declared.refusal.Refusal.{Refusal}
use Rattle.rules.specs.declared.refusal.Refusal.TheVariants.{Sheet, Timetable, Overlap, Early, OverLimit, UntrueClaim, Stuck, Short, TooManyTasks, TooManyFiles}
use Rattle.rules.specs.Refusals.{as_fault, refusal_number}
use Rattle.rules.proofs.MarkerLaws.{fault-numbered}
use Rattle.model.specs.declared.job.Job.{Job}
use Rattle.model.specs.Jobs.{instance_in}
use Rattle.model.proofs.JobLaws.{tasks-in, files-in}

module _ (j : Job) {m : ℕ} (e : m ≡ added_count (instance_in j)) where
  abbrev I : Instance
  I = instance_in j

  tasks : task_count (converted I) ≡ m + length j.tasks.now
  tasks = omega (arith, tasks-converted I, tasks-in j)

  files : file_count (converted I) ≡ m + length j.files.now
  files = omega (arith, files-converted I, files-in j)

  pub many-tasks : max_tasks < m + length j.tasks.now → (buffer : List ℕ) (a : Output) → unwritten 41 0 buffer ≡ if_convertible I buffer a
  many-tasks h buffer a = rw (tasks, lt-ltb max_tasks (m + length j.tasks.now) h)

  pub many-files : m + length j.tasks.now ≤ max_tasks → max_files < m + length j.files.now → (buffer : List ℕ) (a : Output) → unwritten 42 0 buffer ≡ if_convertible I buffer a
  many-files h l buffer a = rw (tasks, files, le-ltb max_tasks (m + length j.tasks.now) h, lt-ltb max_files (m + length j.files.now) l)

  pub convertible : m + length j.tasks.now ≤ max_tasks → m + length j.files.now ≤ max_files → Convertible I
  convertible h l = record { tasks = omega (arith, tasks-in j); files = omega (arith, files-in j) }

  pub fits : Convertible I → (m + length j.tasks.now ≤ max_tasks) × (m + length j.files.now ≤ max_files)
  fits c = (omega (arith, c.tasks, tasks-in j), omega (arith, c.files, files-in j))

-- a job that can be converted is answered
pub passes : (I : Instance) → Convertible I → (buffer : List ℕ) (a : Output) → if_convertible I buffer a ≡ a
passes I fit buffer a =
    let t : task_count (converted I) ≤ max_tasks = omega (arith, tasks-converted I, fit.tasks) in
    let f : file_count (converted I) ≤ max_files = omega (arith, files-converted I, fit.files) in
    rw (le-ltb max_tasks (task_count (converted I)) t, le-ltb max_files (file_count (converted I)) f)

-- no refusal has the number 0
pub numbered : (r : Refusal) → refusal_number r ≡ 0 → ⊥
numbered (Sheet w k) z = fault-numbered in_sheet (as_fault w) z
numbered (Timetable w k) z = fault-numbered in_timetable (as_fault w) z
numbered (Overlap k) z = omega arith
numbered (Early k) z = omega arith
numbered (OverLimit k) z = omega arith
numbered UntrueClaim z = omega arith
numbered (Stuck k) z = omega arith
numbered (Short k) z = omega arith
numbered TooManyTasks z = omega arith
numbered TooManyFiles z = omega arith
