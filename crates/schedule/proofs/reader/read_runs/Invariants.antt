-- `schedule::reader::read_runs` meets its contract: what is left to be read is the whole answer.
use Rattle.schedule.proofs.ReadLoops.{RunsRead}
use Rattle.schedule.proofs.reader.read_runs.Given as goal

abbrev pub invariant-loop-i : goal.invariant-loop-i
invariant-loop-i l = RunsRead l.job l.paper l.schedule l.rest l.i
