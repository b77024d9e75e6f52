use native.Mathlib.Omega.{arith}
use Rattle.links.proofs.WalkLaws.{begins, turn, ended, place-within}
use Rattle.needs.proofs.SizeLaws.{sizes-first, sizes-next, sizes-all}
use Rattle.needs.proofs.table.sizes.Goals as goal

pub loop-k-init : goal.loop-k-init
loop-k-init c =
    let b = begins c.files-k-items.ensures c.into_iter-k-iterator.ensures.into_iter_gives in
    record { of = b.of; most = omega arith; sum = sizes-first c.args.links.now.job _ b.first }

pub size-sum-requires : goal.size-sum-requires
size-sum-requires c = (turn c.loop-k.invariant.of c.next.ensures.steps c.in-Some.is).exists

pub overflow_add-sum : goal.overflow_add-sum
overflow_add-sum c = omega (arith, place-within c.loop-k.invariant.of, c.args.links.now.job.in_bounds.files)

pub loop-k-preserved : goal.loop-k-preserved
loop-k-preserved c =
    let t = turn c.loop-k.invariant.of c.next.ensures.steps c.in-Some.is in record {
      of = t.of;
      most = omega (arith, t.came, t.next.from);
      sum = sizes-next c.args.links.now.job _ t.next t.holds c.size-sum.ensures.value (rw t.came at c.loop-k.invariant.sum);
    }

pub returns : goal.returns
returns c = record {
  value = sizes-all c.args.links.now.job _ (ended c.loop-k.invariant.of c.next.ensures.steps c.in-None.is) c.loop-k.invariant.sum;
  upper_bound = omega (arith, place-within c.loop-k.invariant.of, c.args.links.now.job.in_bounds.files);
}
