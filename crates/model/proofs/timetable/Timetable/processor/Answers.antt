-- `processor` meets its contract.
use mathlib.Core.Path.{sym, ◌∙◌}
use Rattle.model.specs.Layout.{entries_of}
use Rattle.model.proofs.LayoutLaws.{processor-at}
use Rattle.model.proofs.timetable.Timetable.processor.Goals as goal

pub returns : goal.returns
returns c = c.processor.ensures ∙ sym (processor-at _ _ (entries_of c.args.self.now.schedule.now) c.args.i c.requires)
