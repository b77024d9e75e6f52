use native.Mathlib.Omega.{arith}
use Rattle.links.proofs.WalkLaws.{begins, turn, ended, place-within}
use Rattle.needs.proofs.DemandLaws.{demand-first, demand-skip, demand-all, demand-within}
use Rattle.needs.proofs.demand.demand_of.Goals as goal

pub loop-k-init : goal.loop-k-init
loop-k-init c =
    let b = begins c.files-k-items.ensures c.into_iter-k-iterator.ensures.into_iter_gives in record {
      of = b.of;
      bounds = rw c.new-demand.ensures (record { incoming = omega arith; arrival = omega arith; longest = omega arith });
      below = rw c.new-demand.ensures (demand-first c.args.links.now.job _ _ _ b.first);
    }

pub with_file-demand-requires : goal.with_file-demand-requires
with_file-demand-requires c =
    let t = turn c.loop-k.invariant.of c.next.ensures.steps c.in-Some.is in record {
      k_lt_files = t.exists;
      read = t.holds;
      demand_below = rw t.came at c.loop-k.invariant.below;
      demand_bounds = rw t.came at c.loop-k.invariant.bounds;
    }

pub loop-k-preserved : goal.loop-k-preserved
loop-k-preserved c =
    let t = turn c.loop-k.invariant.of c.next.ensures.steps c.in-Some.is in record {
      of = t.of;
      bounds = demand-within (omega (arith, t.next.from)) c.with_file-demand.ensures.demand_bounds_2;
      below = demand-skip c.args.links.now.job _ _ _ t.next c.with_file-demand.ensures.demand_below_2;
    }

pub returns : goal.returns
returns c =
    let inv = c.loop-k.invariant in record {
      demand_of = demand-all c.args.links.now.job _ _ _ inv.below (ended inv.of c.next.ensures.steps c.in-None.is);
      demand_bounds = demand-within (omega (arith, place-within inv.of, c.args.links.now.job.in_bounds.files)) inv.bounds;
    }
