use Rattle.std.proofs.Common.{ap, arith, get_or}
use Rattle.std.proofs.lemmas.List.{get_or_default}
use Rattle.std.proofs.lemmas.List.Edits.{map_over_more}
use Rattle.staircase.specs.Steps.{no_step, with_change}
use Rattle.staircase.proofs.StepLaws.{unchanged}
use Rattle.staircase.proofs.steps.change_all.Goals as goal

pub free_after-step-requires-clause-most : goal.free_after-step-requires-clause-most
free_after-step-requires-clause-most c =
    let e = unchanged (with_change c.args.amount c.args.rises) c.args.steps.now c.loop-step.step-index c.loop-step.invariant (omega arith) in
    omega (arith, ap (λ s. s.free) e, c.requires.most c.loop-step.step-index c.loop-step-test.true)

pub free_after-step-requires-clause-enough : goal.free_after-step-requires-clause-enough
free_after-step-requires-clause-enough c =
    let e = unchanged (with_change c.args.amount c.args.rises) c.args.steps.now c.loop-step.step-index c.loop-step.invariant (omega arith) in
    λ r. omega (arith, ap (λ s. s.free) e, c.requires.enough r c.loop-step.step-index c.loop-step-test.true)

pub loop-step-preserved : goal.loop-step-preserved
loop-step-preserved c = rw (c.free_after-step.ensures 0)
    (map_over_more (with_change c.args.amount c.args.rises) c.args.steps.now c.loop-step.steps c.loop-step.step-index (get_or c.loop-step.steps c.loop-step.step-index no_step)
    c.loop-step-test.true c.loop-step.invariant (get_or_default c.loop-step.steps c.loop-step.step-index no_step _ (omega arith)))
