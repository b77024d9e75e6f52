-- `schedule::reader::read_moves` meets its contract: what is left to be read is the whole answer.
use Rattle.schedule.proofs.ReadLoops.{MovesRead}
use Rattle.schedule.proofs.reader.read_moves.Given as goal

abbrev pub invariant-loop-k : goal.invariant-loop-k
invariant-loop-k l = MovesRead l.job l.paper l.initial.schedule l.schedule l.line l.rest l.next l.k
