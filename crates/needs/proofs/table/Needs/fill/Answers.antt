use native.Mathlib.Omega.{arith}
use Rattle.model.specs.Jobs.{schedule_of}
use Rattle.needs.proofs.FillLaws.{sizes-are, fill-turn, fill-all}
use Rattle.needs.proofs.table.Needs.fill.Goals as goal

pub loop-i-preserved : goal.loop-i-preserved
loop-i-preserved c =
    let j = c.args.links.now.job in
    let P = schedule_of j c.args.schedule.now in
    fill-turn j P c.loop-i.self.tasks c.need_of.result (omega (arith, c.loop-i.self.whole, j.in_bounds.tasks))
    (sizes-are j P c.sizes.ensures.value c.sizes-in-loop-i.ensures.value c.work-work.ensures.value c.need_of.ensures.sizes)
    c.need_of.ensures.admitted c.loop-i.invariant

pub returns : goal.returns
returns c =
    let j = c.args.links.now.job in
    fill-all j (schedule_of j c.args.schedule.now) c.loop-i.self (omega arith) c.loop-i.invariant
