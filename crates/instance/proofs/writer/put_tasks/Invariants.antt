-- `instance::writer::put_tasks` meets its contract: the lines of the tasks passed are laid down.
use Rattle.rules.specs.InstanceText.{task_lines}
use Rattle.model.specs.Jobs.{instance_in}
use Rattle.instance.proofs.writer.put_tasks.Given as goal

abbrev pub invariant-loop-i : goal.invariant-loop-i
invariant-loop-i g l = g.S.Sink.laid l.initial.sink (task_lines (instance_in l.job) l.i) l.sink
