use native.Mathlib.Omega.{arith}
use Rattle.selection.proofs.RoundLaws.{left-start, left-by, left-on, left-found, left_end}
use Rattle.selection.proofs.trials.Trials.first_that_fits.Goals as goal
use Rattle.selection.proofs.trials.Trials.first_that_fits.Goals.{then-of+else-is_some, else-of}

pub loop-task-init : goal.loop-task-init
loop-task-init c = (omega arith, left-start c.args.self.now c.args.order.now)

pub of-requires : goal.of-requires
of-requires c = omega (arith, c.args.self.now.job.in_bounds.tasks, c.requires.exists c.loop-task.task-index c.loop-task-test.true)

pub both_colours-choice-requires : goal.both_colours-choice-requires
both_colours-choice-requires c = c.requires.exists c.loop-task.task-index c.loop-task-test.true

pub returns-then-is_some-clause-result_value : goal.returns-then-is_some-clause-result_value
returns-then-is_some-clause-result_value c =
    let i = c.loop-task.task-index in
    left-found c.args.self.now c.args.order.now c.loop-task.trials c.loop-task-test.true c.loop-task.invariant.1 (c.requires.exists i c.loop-task-test.true)
    c.of.ensures.value c.if-of.true c.both_colours-choice.result c.both_colours-choice.ensures.result_value c.is_some.ensures c.if-is_some.true

pub loop-task-preserved : goal.loop-task-preserved
loop-task-preserved c =
    let p = c.loop-task.invariant in
    let l = c.requires.exists c.loop-task.task-index c.loop-task-test.true in
    elim c.if-of.branch [
      | then-of+else-is_some w ↦ rw (w.trials-is) (
        omega (arith, p.0),
        left-on c.args.self.now c.args.order.now c.loop-task.trials c.loop-task-test.true p.1 l c.of.ensures.value w.if-of.true
            w.both_colours-choice.result w.both_colours-choice.ensures.result_value w.is_some.ensures w.if-is_some.false,
      )
      | else-of w ↦ rw (w.trials-is) (
        omega (arith, p.0),
        left-by c.args.self.now c.args.order.now c.loop-task.trials c.loop-task-test.true p.1 l c.of.ensures.value w.if-of.false,
      )
    ]

pub returns : goal.returns
returns c = record {
  result_value = left_end c.args.self.now c.args.order.now {i = c.loop-task.task-index} c.loop-task.invariant.1 (omega arith);
  choice_bounds = (tt, omega (arith, c.requires.count));
}
