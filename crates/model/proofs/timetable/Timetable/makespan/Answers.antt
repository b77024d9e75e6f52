use Rattle.std.proofs.Common.{◌≡◌, sym, arith}
use Rattle.rules.specs.Model.{task_count, finish_at}
use Rattle.rules.specs.Validity.{makespan}
use Rattle.model.specs.Jobs.{instance_in, schedule_in}
use Rattle.model.proofs.JobLaws.{tasks-in}
use Rattle.model.proofs.StepLaws.{max_none, max-next}
use Rattle.model.proofs.timetable.Timetable.makespan.Goals as goal

pub loop-i-init : goal.loop-i-init
loop-i-init c = record { value = sym (max_none _); upper_bound = omega arith }

pub loop-i-preserved : goal.loop-i-preserved
loop-i-preserved c =
    let t = c.args.self.now in
    let next = max-next (finish_at (instance_in t.job) (schedule_in t)) c.loop-i.i in
    record { value = omega (arith, next); upper_bound = omega arith }

pub returns-clause-value : goal.returns-clause-value
unfolding makespan
returns-clause-value c =
    let j = c.args.self.now.job in
    let all : c.loop-i.i ≡ task_count (instance_in j) = omega (arith, tasks-in j) in
    rw all at c.loop-i.invariant.value
