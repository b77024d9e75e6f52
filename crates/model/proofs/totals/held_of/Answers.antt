use Rattle.std.proofs.Common.{◌≡◌, sym, arith}
use Rattle.model.proofs.StepLaws.{sum-none}
use Rattle.model.proofs.TotalLaws.{held-next}
use Rattle.model.proofs.totals.held_of.Goals as goal

pub loop-k-init : goal.loop-k-init
loop-k-init g c = record { in_blue = λ f h. sym (sum-none _); in_red = λ f h. sym (sum-none _); blue_bound = omega arith; red_bound = omega arith }

pub overflow_add-blue : goal.overflow_add-blue
overflow_add-blue g c =
    let small = c.requires.small c.loop-k.k c.residency-amount.result c.loop-k-test.true c.residency-amount.ensures in omega (arith, c.covered-blue.ensures.upper_bound)

pub overflow_add-red : goal.overflow_add-red
overflow_add-red g c =
    let small = c.requires.small c.loop-k.k c.residency-amount.result c.loop-k-test.true c.residency-amount.ensures in omega (arith, c.covered-red.ensures.upper_bound)

pub loop-k-preserved : goal.loop-k-preserved
loop-k-preserved g c =
    let small = c.requires.small c.loop-k.k c.residency-amount.result c.loop-k-test.true c.residency-amount.ensures in
    record {
      in_blue = λ f h.
          let e = h c.loop-k.k c.residency-amount.result c.loop-k-test.true c.residency-amount.ensures in
          held-next f c.args.t c.loop-k.k (c.loop-k.invariant.in_blue f h) e.0 e.1 c.covered-blue.ensures.value;
      in_red = λ f h.
          let e = h c.loop-k.k c.residency-amount.result c.loop-k-test.true c.residency-amount.ensures in
          held-next f c.args.t c.loop-k.k (c.loop-k.invariant.in_red f h) e.0 e.1 c.covered-red.ensures.value;
      blue_bound = omega (arith, c.covered-blue.ensures.upper_bound);
      red_bound = omega (arith, c.covered-red.ensures.upper_bound);
    }

pub returns-clause-blue : goal.returns-clause-blue
returns-clause-blue g c = let e : c.loop-k.k ≡ c.args.n = omega arith in λ f h. rw e at (c.loop-k.invariant.in_blue f h)

pub returns-clause-red : goal.returns-clause-red
returns-clause-red g c = let e : c.loop-k.k ≡ c.args.n = omega arith in λ f h. rw e at (c.loop-k.invariant.in_red f h)
