-- `start` meets its contract.
use mathlib.Core.Path.{sym, ◌∙◌}
use Rattle.model.specs.Layout.{entries_of}
use Rattle.model.proofs.LayoutLaws.{start-at}
use Rattle.model.proofs.timetable.Timetable.start.Goals as goal

pub returns-clause-value : goal.returns-clause-value
returns-clause-value c = c.start.ensures ∙ sym (start-at _ _ (entries_of c.args.self.now.schedule.now) c.args.i c.requires)
