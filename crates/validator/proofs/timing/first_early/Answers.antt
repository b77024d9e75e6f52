use mathlib.Core.Path.{sym, ◌∙◌}
use native.Mathlib.Omega.{arith}
use Rattle.model.specs.Jobs.{instance_in, schedule_in}
use Rattle.model.proofs.JobLaws.{tasks-in, files-in}
use Rattle.validator.proofs.LeastLaws.{least-none}
use Rattle.validator.proofs.Loops.{early-found, early-passed, early-total}
use Rattle.validator.proofs.timing.first_early.Goals as goal
use Rattle.validator.proofs.timing.first_early.Goals.{then-early_file, else-early_file}

pub loop-k-init : goal.loop-k-init
loop-k-init c = (tt, sym (least-none _ _ _))

pub loop-k-preserved : goal.loop-k-preserved
loop-k-preserved c =
    let t = c.args.t.now in
    let I = instance_in t.job in
    let tasks = tasks-in t.job in
    elim c.if-early_file.branch [
      | then-early_file w ↦
          let reader = w.reader-reader.ensures in
          rw w.first-is (
            omega (arith, w.min.ensures, reader.upper_bound),
            early-found I (schedule_in t) tasks c.loop-k.k c.loop-k.first c.loop-k.invariant.1 c.early_file.ensures w.if-early_file.true reader.value reader.upper_bound w.unwrap_or.ensures w.min.ensures,
          )
      | else-early_file w ↦
          rw w.first-is
          (c.loop-k.invariant.0, early-passed I (schedule_in t) tasks c.loop-k.k c.loop-k.invariant.1 c.early_file.ensures w.if-early_file.false)
    ]

pub returns-clause-lowest : goal.returns-clause-lowest
returns-clause-lowest c =
    let t = c.args.t.now in
    early-total (instance_in t.job) (schedule_in t) (tasks-in t.job) c.loop-k.k (files-in t.job ∙ omega arith) c.loop-k.invariant.1
