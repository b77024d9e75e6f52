use mathlib.Core.Path.{refl, sym, ◌∙◌}
use native.Mathlib.Omega.{arith}
use Rattle.model.proofs.StepLaws.{sum-none}
use Rattle.conversion.proofs.CountLaws.{count-all}
use Rattle.conversion.proofs.StoredLaws.{stored_at}
use Rattle.conversion.proofs.job.convert_tasks.Goals as goal

pub loop-i-init : goal.loop-i-init
loop-i-init c = (omega arith, sym (sum-none _), stored_at c.requires.stored (omega arith) refl)

pub convert_task-k-requires : goal.convert_task-k-requires
convert_task-k-requires c = record {
  added_value = c.requires.added_value;
  tasks_bound = c.requires.tasks_bound;
  i_lt_tasks = c.loop-i-test.true;
  k_value = c.loop-i.invariant.1;
  stored = c.loop-i.invariant.2;
}

pub loop-i-preserved : goal.loop-i-preserved
loop-i-preserved c =
    let done = c.convert_task-k.ensures in
    (omega arith, done.value, stored_at done.stored_2 (omega arith) refl)

pub returns : goal.returns
returns c =
    stored_at c.loop-i.invariant.2 (omega arith) (count-all c.args.job.now (omega arith) c.loop-i.invariant.1 ∙ sym c.requires.added_value)
