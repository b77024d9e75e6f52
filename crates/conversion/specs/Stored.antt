-- What the numbers hold of the converted job.
use Rattle.std.specs.Prelude.{ℕ, ◌≡◌, map}
use Rattle.rules.specs.Count.{list_below}
use Rattle.rules.specs.Model.{Instance, task_at, file_at}
use Rattle.rules.specs.Conversion.{converted}
use Rattle.model.specs.declared.layout.Numbers.{Numbers}
use Rattle.model.specs.Layout.{as_task, as_file}

-- its first t tasks and its first f files
pub record Stored (I : Instance) (xs : Numbers) (t f : ℕ) : Type 0 where
  pub tasks : map as_task xs.tasks.items ≡ list_below t (task_at (converted I))
  pub files : map as_file xs.files.items ≡ list_below f (file_at (converted I))
