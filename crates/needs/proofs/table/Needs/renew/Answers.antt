use native.Mathlib.Omega.{arith}
use mathlib.Core.Path.{refl}
use Rattle.model.specs.Jobs.{schedule_of, instance_in}
use Rattle.links.proofs.WalkLaws.{begins, turn, ended}
use Rattle.needs.proofs.FillLaws.{renew-first, renew-turn, renew-all, placed-unready}
use Rattle.needs.proofs.table.Needs.renew.Goals as goal

pub loop-k-init : goal.loop-k-init
loop-k-init c =
    let j = c.args.links.now.job in
    let P = schedule_of j c.args.schedule.now in
    let b = begins c.files-k-items.ensures c.into_iter-k-iterator.ensures.into_iter_gives in record {
      of = b.of;
      right = renew-first j P c.args.self.now _ (omega (arith, c.args.self.now.whole, j.in_bounds.tasks)) (refl, refl)
          (placed-unready (instance_in j) P c.args.i refl c.requires.i_lt_tasks.1) b.first c.requires.right_but;
    }

pub reader-reader-requires : goal.reader-reader-requires
reader-reader-requires c = (turn c.loop-k.invariant.of c.next.ensures.steps c.in-Some.is).exists

pub loop-k-preserved : goal.loop-k-preserved
loop-k-preserved c =
    let j = c.args.links.now.job in
    let e = c.admit.ensures in
    let t = turn c.loop-k.invariant.of c.next.ensures.steps c.in-Some.is in record {
      of = t.of;
      right = renew-turn j (schedule_of j c.args.schedule.now) c.loop-k.self.tasks c.admit.new.self.tasks e.same_but e.sizes e.admitted t.next c.reader-reader.ensures.value
          (rw t.came at c.loop-k.invariant.right);
    }

pub returns : goal.returns
returns c =
    let j = c.args.links.now.job in
    let e = ended c.loop-k.invariant.of c.next.ensures.steps c.in-None.is in
    renew-all j (schedule_of j c.args.schedule.now) c.loop-k.self (omega (arith, e)) c.loop-k.invariant.right
