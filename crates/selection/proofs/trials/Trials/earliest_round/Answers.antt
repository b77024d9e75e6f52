use native.Mathlib.Omega.{arith}
use Rattle.selection.proofs.RoundLaws.{passed_none, passed-ready, passed-waits, passed-all}
use Rattle.selection.proofs.trials.Trials.earliest_round.Goals as goal
use Rattle.selection.proofs.trials.Trials.earliest_round.Goals.{then-of, else-of}

pub loop-i-init : goal.loop-i-init
loop-i-init c = (omega arith, tt, passed_none c.args.self.now)

pub loop-i-preserved : goal.loop-i-preserved
loop-i-preserved c =
    let p = c.loop-i.invariant in
    elim c.if-of.branch [
      | then-of w ↦ rw (w.choice-is, w.trials-is) (
        omega (arith, p.0),
        w.earlier-choice.ensures.choice_bounds,
        passed-ready c.args.self.now p.2 c.loop-i-test.true c.of.ensures.value w.if-of.true w.both_colours-found.result
            w.both_colours-found.ensures.result_value w.earlier-choice.ensures.result_value,
      )
      | else-of w ↦ rw (w.choice-is, w.trials-is) (
        omega (arith, p.0),
        p.1,
        passed-waits c.args.self.now p.2 c.loop-i-test.true c.of.ensures.value w.if-of.false,
      )
    ]

pub returns : goal.returns
returns c = record {
  result_value = passed-all c.args.self.now c.loop-i.invariant.2 (omega arith);
  choice_bounds = (c.loop-i.invariant.1, omega arith);
}
