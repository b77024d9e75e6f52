use mathlib.Core.Path.{refl}
use native.Mathlib.Omega.{arith}
use Rattle.conversion.proofs.StoredLaws.{stored_at}
use Rattle.conversion.proofs.job.convert_files.Goals as goal

pub loop-k-init : goal.loop-k-init
loop-k-init c = (omega arith, stored_at c.requires.stored refl (omega arith))

pub convert_file-requires : goal.convert_file-requires
convert_file-requires c = record {
  added_value = c.requires.added_value;
  tasks_bound = c.requires.tasks_bound;
  k_lt_files = c.loop-k-test.true;
  stored = c.loop-k.invariant.1;
}

pub loop-k-preserved : goal.loop-k-preserved
loop-k-preserved c = (omega arith, stored_at c.convert_file.ensures refl (omega arith))

pub returns : goal.returns
returns c = stored_at c.loop-k.invariant.1 refl (omega arith)
