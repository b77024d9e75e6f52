-- The converted job stored task by task and file by file.
use Prim.Native.Nat.{ℕ, ◌+◌, ◌≤◌, ◌<◌}
use mathlib.Core.List.{List, [], ◌∷◌, ◌++◌, map}
use mathlib.Core.Path.{◌≡◌, refl, sym, ap, ap₂, ◌∙◌}
use native.Mathlib.Omega.{arith}
use lib.ListN.{length}
use Rattle.std.proofs.lemmas.List.{length-map, map-append}
use Rattle.rules.specs.Count.{list_below}
use Rattle.rules.specs.Model.{Instance, Task, File, task_at, file_at}
use Rattle.rules.specs.Conversion.{added_count, converted}
use Rattle.rules.proofs.CountLaws.{length-list_below}
use Rattle.rules.proofs.ConversionLaws.{tasks-converted, files-converted}
use Rattle.model.specs.declared.job.Job.{Job}
use Rattle.model.specs.declared.layout.Task.{Task as StoredTask}
use Rattle.model.specs.declared.layout.File.{File as StoredFile}
use Rattle.model.specs.declared.layout.Numbers.{Numbers}
use Rattle.model.specs.Layout.{as_task, as_file, no_numbers, instance_of, instance_with}
use Rattle.model.specs.Jobs.{instance_in}
use Rattle.model.proofs.JobLaws.{tasks-in, files-in}
use Rattle.conversion.specs.Stored.{Stored}
use Rattle.conversion.proofs.ListLaws.{list-more, list-whole}

pub stored-none : (I : Instance) → Stored I no_numbers 0 0
unfolding list_below
stored-none I = record { tasks = refl; files = refl }

-- by equal counts
pub stored_at : {I : Instance} {xs : Numbers} {t f t' f' : ℕ} → Stored I xs t f → t ≡ t' → f ≡ f' → Stored I xs t' f'
stored_at s p q = rw (← p, ← q) s

module _ {I : Instance} {xs : Numbers} {t f : ℕ} (s : Stored I xs t f) where
  -- how many there are
  pub tasks-stored : length xs.tasks.items ≡ t
  tasks-stored = sym (length-map xs.tasks.items as_task) ∙ ap length s.tasks ∙ length-list_below t _

  pub files-stored : length xs.files.items ≡ f
  files-stored = sym (length-map xs.files.items as_file) ∙ ap length s.files ∙ length-list_below f _

  -- one task, or one file, more
  module _ {ys : Numbers} where
    pub task-more : {a : StoredTask} → ys.tasks.items ≡ xs.tasks.items ++ a ∷ [] → ys.files ≡ xs.files → as_task a ≡ task_at (converted I) t → Stored I ys (t + 1) f
    task-more {a} p q e =
        record {
          tasks = list-more t (task_at (converted I)) (ap (map as_task) p ∙ map-append as_task xs.tasks.items (a ∷ [])) s.tasks e;
          files = ap (λ l. map as_file l.items) q ∙ s.files;
        }

    pub file-more : {a : StoredFile} → ys.files.items ≡ xs.files.items ++ a ∷ [] → ys.tasks ≡ xs.tasks → as_file a ≡ file_at (converted I) f → Stored I ys t (f + 1)
    file-more {a} p q e =
        record {
          tasks = ap (λ l. map as_task l.items) q ∙ s.tasks;
          files = list-more f (file_at (converted I)) (ap (map as_file) p ∙ map-append as_file xs.files.items (a ∷ [])) s.files e;
        }

with-parts : Instance → List Task → List File → Instance
with-parts I tasks files = record { blue_side = I.blue_side; red_side = I.red_side; tasks = tasks; files = files }

-- with all tasks and files stored it is the converted job
pub stored-all : (j : Job) {xs : Numbers} {m : ℕ} → m ≡ added_count (instance_in j)
    → Stored (instance_in j) xs (m + length j.tasks.now) (m + length j.files.now) → instance_with j.board xs ≡ converted (instance_in j)
unfolding instance_of converted with-parts
stored-all j {xs} {m} e s = ap₂ (with-parts (instance_in j)) tasks files
  where
    I : Instance
    I = instance_in j

    tasks : map as_task xs.tasks.items ≡ (converted I).tasks
    tasks = s.tasks ∙ list-whole (m + length j.tasks.now) (converted I).tasks _ (omega (arith, tasks-converted I, tasks-in j))

    files : map as_file xs.files.items ≡ (converted I).files
    files = s.files ∙ list-whole (m + length j.files.now) (converted I).files _ (omega (arith, files-converted I, files-in j))
