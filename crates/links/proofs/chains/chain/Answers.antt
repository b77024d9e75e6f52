use native.Mathlib.Omega.{arith}
use Prim.Native.Nat.{◌-◌}
use borrow.Author.Rules.{rules}
use Rattle.model.specs.Jobs.{instance_in}
use Rattle.links.specs.Chains.{has_at}
use Rattle.links.proofs.LinkLaws.{chained-none, chained-turn, chained-all}
use Rattle.links.proofs.chains.chain.Goals as goal

pub loop-k-init : goal.loop-k-init
loop-k-init c =
    let j = c.args.job.now in
    (search rules, search rules, chained-none j (has_at c.args.end (instance_in j)) j.in_bounds.tasks)

pub loop-k-preserved : goal.loop-k-preserved
loop-k-preserved c =
    let j = c.args.job.now in (
      search rules,
      search rules,
      chained-turn j (has_at c.args.end (instance_in j)) {c = c.loop-k.chains} {k = c.loop-k.k - 1} (omega arith)
          c.task_at-i.ensures.upper_bound (omega (arith, j.in_bounds.tasks)) (omega (arith, j.in_bounds.files))
          c.task_at-i.ensures.by_index (omega arith) c.loop-k.invariant.2,
    )

pub returns : goal.returns
returns c =
    let j = c.args.job.now in
    chained-all j (has_at c.args.end (instance_in j)) (omega arith) c.loop-k.invariant.2
