use Rattle.std.proofs.Common.{arith}
use borrow.Author.Tests.{ltb-true}
use Rattle.model.specs.Jobs.{instance_in, schedule_in}
use Rattle.model.proofs.JobLaws.{placed-complete}
use Rattle.simulator.proofs.StepLaws.{begins, goes, walk-over}
use Rattle.simulator.proofs.walk.watch.Goals as goal

pub loop-tick-init : goal.loop-tick-init
loop-tick-init c = record { reached = begins _ _ _; wanted = omega arith }

pub loop-tick-preserved : goal.loop-tick-preserved
loop-tick-preserved c =
    let t = c.args.t.now in
    let complete = placed-complete t.job t.schedule.now c.requires.placed in
    let step = c.in-Continue.ensures in record {
      reached = goes (instance_in t.job) c.requires.well_formed (schedule_in t) complete c.loop-tick.invariant.reached (step.1, step.2);
      wanted = omega (arith, ltb-true c.loop-tick.made c.args.wanted step.0);
    }

pub returns-in-Break : goal.returns-in-Break
returns-in-Break c =
    let t = c.args.t.now in
    let complete = placed-complete t.job t.schedule.now c.requires.placed in
    walk-over (instance_in t.job) c.requires.well_formed (schedule_in t) complete c.loop-tick.invariant.reached c.answer_after.ensures c.args.wanted
    c.loop-tick.invariant.wanted c.in-Break.ensures
