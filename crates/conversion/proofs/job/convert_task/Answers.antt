-- `convert_task` meets its contract: the task is stored, and the file where the task has W.
use mathlib.Core.Path.{ap, ◌∙◌}
use lib.ListN.{length}
use native.Mathlib.Omega.{arith}
use Rattle.conversion.proofs.CountLaws.{count-without, count-with, count_less}
use Rattle.conversion.proofs.ConvertedLaws.{task-from, file-for}
use Rattle.conversion.proofs.StoredLaws.{tasks-stored, files-stored, task-more, file-more}
use Rattle.conversion.proofs.job.convert_task.Goals as goal

pub push_task-requires : goal.push_task-requires
push_task-requires c = omega (arith, tasks-stored c.requires.stored)

pub returns-then-work-eq0 : goal.returns-then-work-eq0
returns-then-work-eq0 c =
    let push = c.push_task.ensures in
    let j = c.args.job.now in record {
      value = c.requires.k_value ∙ count-without j c.requires.i_lt_tasks c.work-work.ensures.value c.if-work-eq0.true;
      stored_2 = task-more c.requires.stored push.tasks push.files
          (task-from j c.requires.added_value c.requires.i_lt_tasks c.run_time-blue.ensures.value c.run_time-red.ensures.value);
    }

pub push_file-requires : goal.push_file-requires
push_file-requires c =
    omega (
      arith,
      ap (λ l. length l.items) c.push_task.ensures.files,
      files-stored c.requires.stored,
      count_less c.args.job.now c.requires.i_lt_tasks c.work-work.ensures.value c.if-work-eq0.false,
    )

pub overflow_add-result : goal.overflow_add-result
overflow_add-result c = omega (arith, count_less c.args.job.now c.requires.i_lt_tasks c.work-work.ensures.value c.if-work-eq0.false)

pub returns : goal.returns
returns c =
    let file = c.push_file.ensures in
    let task = c.push_task.ensures in
    let none = c.if-work-eq0.false in
    let j = c.args.job.now in
    let h = c.requires.i_lt_tasks in record {
      value = omega (arith, count-with j h c.work-work.ensures.value none);
      stored_2 = file-more
          (task-more c.requires.stored task.tasks task.files
          (task-from j c.requires.added_value h c.run_time-blue.ensures.value c.run_time-red.ensures.value))
          file.files file.tasks (file-for j c.requires.added_value h c.requires.k_value c.work-work.ensures.value none);
    }
