-- `schedule::writer::put_runs` meets its contract: the lines of the runs passed are laid down, and none of them is too long.
use Prim.Native.Nat.{◌*◌, ◌≤◌}
use lib.ListN.{length}
use Rattle.rules.specs.ScheduleText.{run_lines}
use Rattle.model.specs.Jobs.{schedule_of}
use Rattle.schedule.specs.Sizes.{longest}
use Rattle.schedule.proofs.writer.put_runs.Given as goal

abbrev pub invariant-loop-i : goal.invariant-loop-i
invariant-loop-i g l =
    let P = schedule_of l.job l.schedule in
    g.S.Sink.laid l.initial.sink (run_lines P l.i) l.sink × (length (run_lines P l.i) ≤ longest * l.i)
