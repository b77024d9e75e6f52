use Prim.Native.Nat.{◌+◌}
use mathlib.Core.Path.{◌≡◌}
use native.Mathlib.Omega.{arith}
use Rattle.std.proofs.Common.{rules, of_calls}
use Rattle.rules.specs.ScheduleText.{schedule_line, run_of}
use Rattle.rules.specs.declared.refusal.Refusal.TheVariants.{Timetable}
use Rattle.text.proofs.DueLaws.{is-err, due-taken, due-refused}
use Rattle.model.specs.Jobs.{instance_in}
use Rattle.schedule.specs.Reading.{as_run}
use Rattle.schedule.proofs.ReadLoops.{runs-start, runs-refused, runs-next, runs-end}
use Rattle.schedule.proofs.reader.read_runs.Goals as goal

pub loop-i-init : goal.loop-i-init
loop-i-init c = runs-start _ _ _

pub returns-in_err-due : goal.returns-in_err-due
returns-in_err-due c =
    let (w, k, d) = due-refused (schedule_line (instance_in c.args.job.now)) (run_of (c.loop-i.i + 1)) as_run c.loop-i.rest.now c.due_run.result
    c.due_run.ensures _ c.map_err.ensures.cases c.in_err-due.was in
    let q : c.in_err-due.field-0.0 ≡ Timetable w (c.loop-i.i + 1) = search (rules, of_calls) in
    rw (is-err _ c.from_residual.ensures.1, q)
    (runs-refused c.loop-i.invariant (omega arith) _ d)

pub loop-i-preserved : goal.loop-i-preserved
loop-i-preserved c =
    runs-next c.loop-i.invariant (omega arith) c.args.job.now.in_bounds.tasks c.set_run.ensures.schedule_len.0 c.in_ok-due.due.value
    (due-taken (schedule_line (instance_in c.args.job.now)) (run_of (c.loop-i.i + 1)) as_run c.loop-i.rest.now c.due_run.result c.due_run.ensures _
    c.map_err.ensures.cases c.in_ok-due.was)
    _ c.set_run.ensures.schedule_after

pub returns : goal.returns
returns c = runs-end c.loop-i.invariant (omega arith) (omega arith)
