-- `instance::writer::put_files` meets its contract: the lines of the files passed are laid down.
use Rattle.rules.specs.InstanceText.{file_lines}
use Rattle.model.specs.Jobs.{instance_in}
use Rattle.instance.proofs.writer.put_files.Given as goal

abbrev pub invariant-loop-k : goal.invariant-loop-k
invariant-loop-k g l = g.S.Sink.laid l.initial.sink (file_lines (instance_in l.job) l.k) l.sink
