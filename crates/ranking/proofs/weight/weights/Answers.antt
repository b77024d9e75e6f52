use Prim.Native.Nat.{◌-◌}
use native.Mathlib.Omega.{arith}
use borrow.Author.Rules.{rules}
use lib.ListN.{length-set}
use Rattle.ranking.proofs.WeightLaws.{weights-none, weights-next, weights-all, weight-fits, weights-turn}
use Rattle.ranking.proofs.weight.weights.Goals as goal

pub loop-i-init : goal.loop-i-init
loop-i-init c =
    let j = c.args.links.now.job in
    (search rules, weights-none j c.requires)

pub heaviest_reader-behind-requires : goal.heaviest_reader-behind-requires
heaviest_reader-behind-requires c =
    let j = c.args.links.now.job in record {
      well_formed = c.requires;
      weights_from = weights-next j c.requires c.loop-i-test.true c.loop-i.invariant.1;
      i_lt_tasks = omega arith;
    }

pub overflow_add-all : goal.overflow_add-all
overflow_add-all c =
    let j = c.args.links.now.job in
    omega (
      arith,
      weight-fits j c.requires (c.loop-i.i - 1) (omega arith) c.run_time.ensures.value c.run_time-in-loop-i.ensures.value c.heaviest_reader-behind.ensures,
    )

pub loop-i-preserved : goal.loop-i-preserved
loop-i-preserved c =
    let j = c.args.links.now.job in (
      simp length-set c.loop-i.invariant.0,
      weights-turn j c.requires (c.loop-i.i - 1) (omega arith) c.run_time.ensures.value c.run_time-in-loop-i.ensures.value
          c.heaviest_reader-behind.ensures c.loop-i.invariant.0 (weights-next j c.requires c.loop-i-test.true c.loop-i.invariant.1),
    )

pub returns : goal.returns
returns c =
    let j = c.args.links.now.job in record {
      value = weights-all j c.requires (omega arith) c.loop-i.invariant.1;
      len = c.loop-i.invariant.0;
    }
