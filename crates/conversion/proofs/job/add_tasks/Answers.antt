use mathlib.Core.Path.{refl, sym, ap, ◌∙◌}
use mathlib.Core.List.{[], ◌∷◌}
use lib.ListN.{length, length-append}
use Rattle.model.specs.declared.layout.Task.{Task}
use native.Mathlib.Omega.{arith}
use Rattle.rules.proofs.ConversionLaws.{task-added}
use Rattle.conversion.proofs.StoredLaws.{stored_at, stored-none, task-more}
use Rattle.conversion.proofs.job.add_tasks.Goals as goal

pub loop-k-init : goal.loop-k-init
loop-k-init c = (omega arith, omega arith, λ I e n. rw n (stored-none I))

abbrev none : Task
none = record { on_blue = 0; on_red = 0; work = 0 }

pub loop-k-preserved : goal.loop-k-preserved
loop-k-preserved c =
    let push = c.push_task.ensures in (
      omega arith,
      ap length push.tasks ∙ omega (arith, length-append c.loop-k.target.tasks.items (none ∷ []), c.loop-k.invariant.1),
      λ I e n. task-more (c.loop-k.invariant.2 I e n) push.tasks push.files (sym (task-added I c.loop-k.k (omega (arith, e)))),
    )
