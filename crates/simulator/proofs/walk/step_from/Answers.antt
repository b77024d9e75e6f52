-- `step_from` meets its contract.
use Rattle.model.specs.Jobs.{instance_in, schedule_in}
use Rattle.simulator.proofs.StepLaws.{ahead-end, ahead-left, ahead-fault, some-fault}
use Rattle.simulator.proofs.walk.step_from.Goals as goal

pub returns-in_default : goal.returns-in_default
returns-in_default c = let t = c.args.t.now in ahead-end (instance_in t.job) (schedule_in t) c.in_default.ensures.soonest c.makespan.ensures.value

pub returns-then-not-wanted : goal.returns-then-not-wanted
returns-then-not-wanted c =
    let t = c.args.t.now in
    ahead-left (instance_in t.job) (schedule_in t) c.in-Some.tick c.in-Some.ensures.soonest c.if-not-wanted.true

pub returns-in-Some-fault_at : goal.returns-in-Some-fault_at
returns-in-Some-fault_at c =
    let t = c.args.t.now in
    ahead-fault (instance_in t.job) (schedule_in t) c.in-Some.tick c.in-Some.ensures.soonest c.if-not-wanted.false c.in-Some-fault_at.ensures
    (some-fault c.in-Some-fault_at.fault)
