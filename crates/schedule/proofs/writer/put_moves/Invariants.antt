-- `schedule::writer::put_moves` meets its contract: the lines of the files passed are laid down, and none of them is too long.
use Prim.Native.Nat.{◌*◌, ◌≤◌}
use lib.ListN.{length}
use Rattle.rules.specs.ScheduleText.{move_lines}
use Rattle.model.specs.Jobs.{instance_in, schedule_of}
use Rattle.schedule.specs.Sizes.{longest}
use Rattle.schedule.proofs.writer.put_moves.Given as goal

abbrev pub invariant-loop-k : goal.invariant-loop-k
invariant-loop-k g l =
    let I = instance_in l.job in
    let P = schedule_of l.job l.schedule in
    g.S.Sink.laid l.initial.sink (move_lines I P l.k) l.sink × (length (move_lines I P l.k) ≤ longest * l.k)
