use Prim.Native.Nat.{ℕ, ◌+◌}
use mathlib.Core.Path.{◌≡◌}
use mathlib.Core.Bool.{true, false}
use native.Mathlib.Omega.{arith}
use Rattle.std.proofs.Common.{rules, of_calls}
use Rattle.rules.specs.ScheduleText.{schedule_line, move_of}
use Rattle.rules.specs.declared.refusal.Refusal.TheVariants.{Timetable}
use Rattle.text.proofs.DueLaws.{is-err, due-taken, due-refused}
use Rattle.model.specs.Jobs.{instance_in}
use Rattle.schedule.proofs.ReadLoops.{moves-start, moves-refused, moves_next, moves-skip, moves-end}
use Rattle.schedule.proofs.CrossingLaws.{moved-so-far}
use Rattle.schedule.proofs.reader.read_moves.Goals as goal
use Rattle.schedule.proofs.reader.read_moves.Goals.{then-moves+in_ok-due, else-moves}

pub loop-k-init : goal.loop-k-init
loop-k-init c = moves-start _ _ _ _

pub returns-in_err-due-clause-goes_on : goal.returns-in_err-due-clause-goes_on
returns-in_err-due-clause-goes_on c =
    let (w, k, d) = due-refused (schedule_line (instance_in c.args.job.now)) (move_of (c.maker.result + 1) (c.reader.result + 1)) (λ (t : ℕ). t) c.loop-k.rest.now
    c.due_move.result c.due_move.ensures _ c.map_err.ensures.cases c.in_err-due.was in
    let q : c.in_err-due.field-0.0 ≡ Timetable w c.loop-k.next = search (rules, of_calls) in
    let m : c.moves-moves.result ≡ true = search rules in
    rw (is-err _ c.from_residual.ensures.1, q)
    (moves-refused c.loop-k.invariant c.loop-k-test.true (moved-so-far c.loop-k.invariant c.moves-moves.ensures m)
    c.maker.ensures.value c.reader.ensures.value _ d)

pub loop-k-preserved : goal.loop-k-preserved
loop-k-preserved c =
    elim c.if-moves.branch [
      | then-moves+in_ok-due w ↦
          let m : c.moves-moves.result ≡ true = search rules in
          rw (w.schedule-is, w.rest-is, w.next-is)
          (moves_next c.loop-k.invariant c.loop-k-test.true (moved-so-far c.loop-k.invariant c.moves-moves.ensures m)
          w.maker.ensures.value w.reader.ensures.value
          c.args.job.now.in_bounds w.set_move_start.ensures.schedule_len.0 _
          (due-taken (schedule_line (instance_in c.args.job.now)) (move_of (w.maker.result + 1) (w.reader.result + 1)) (λ (t : ℕ). t) c.loop-k.rest.now
          w.due_move.result w.due_move.ensures _ w.map_err.ensures.cases w.in_ok-due.was)
          _ w.set_move_start.ensures.schedule_after)
      | else-moves w ↦
          let m : c.moves-moves.result ≡ false = search rules in
          rw (w.schedule-is, w.rest-is, w.next-is)
          (moves-skip c.loop-k.invariant c.loop-k-test.true (moved-so-far c.loop-k.invariant c.moves-moves.ensures m) c.args.job.now.in_bounds
          w.set_move_start-else-moves.ensures.schedule_len.0 _ w.set_move_start-else-moves.ensures.schedule_after)
    ]

pub returns-clause-goes_on : goal.returns-clause-goes_on
returns-clause-goes_on c = moves-end c.loop-k.invariant (omega arith) (omega arith)
