-- What the trials of a round go by is of a partial timetable.
use Rattle.rules.specs.Scheduling.{Partial}
use Rattle.model.specs.Jobs.{instance_in}
use Rattle.starts.specs.Kept.{Kept}
use Rattle.selection.specs.declared.trials.Trials.{Trials}
use Rattle.selection.specs.Choices.{IdleOf, stairs_in}

pub record TrialsOf (Q : Partial) (x : Trials) : Type 0 where
  pub kept : Kept (instance_in x.job) Q x.needs.now (stairs_in x.stairs)
  pub idle : IdleOf (instance_in x.job) Q x.idle
