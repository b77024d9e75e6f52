-- `instance::build::add_task` meets its contract: the task is the next, and its numbers are stored.
use mathlib.Core.Path.{sym, ◌∙◌}
use native.Mathlib.Omega.{arith}
use lib.ListN.{length}
use borrow.Author.Tests.{eqb-true, eqb-false}
use Rattle.instance.proofs.BuildLaws.{task-behind-file, task-misnumbered, task-taken}
use Rattle.instance.proofs.build.add_task.Goals as goal
use Rattle.instance.proofs.build.add_task.Goals.{then-not-is_empty-via-then-not-is_empty, then-not-is_empty-via-else-not-is_empty+then-i-len}

pub returns-then-not-is_empty : goal.returns-then-not-is_empty
returns-then-not-is_empty c =
    λ b. elim c.then-not-is_empty.branch [
      | then-not-is_empty-via-then-not-is_empty w ↦ task-behind-file b c.args.numbers.now _ _ (eqb-false (length c.args.numbers.now.files.items) 0 (sym c.is_empty.ensures ∙ w.if-not-is_empty.true))
      | then-not-is_empty-via-else-not-is_empty+then-i-len w ↦ task-misnumbered b c.args.numbers.now _ _ (omega arith)
    ]

pub returns : goal.returns
returns c =
    let w = c.push_task.ensures in
    let a = c.args in
    λ b. task-taken b a.numbers.now c.push_task.new.self a.i a.blue a.red a.work (eqb-true (length a.numbers.now.files.items) 0 (sym c.is_empty.ensures ∙ c.if-not-is_empty.false)) (omega arith) w.tasks w.files
