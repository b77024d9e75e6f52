-- `move_start` meets its contract.
use mathlib.Core.Path.{sym, ◌∙◌}
use Rattle.model.specs.Layout.{entries_of}
use Rattle.model.proofs.LayoutLaws.{move-at}
use Rattle.model.proofs.timetable.Timetable.move_start.Goals as goal

pub returns-clause-value : goal.returns-clause-value
returns-clause-value c = c.move_start.ensures ∙ sym (move-at _ _ (entries_of c.args.self.now.schedule.now) c.args.k c.requires)
