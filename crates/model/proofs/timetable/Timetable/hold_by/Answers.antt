-- `hold_by` meets its contract: the rules' hold by which of the file's two tasks are placed, and by its times.
use mathlib.Core.Path.{sym, ap, ◌∙◌}
use Rattle.rules.specs.Model.{start_at}
use Rattle.model.specs.Colours.{as_colour}
use Rattle.model.specs.Jobs.{instance_in, schedule_in}
use Rattle.model.proofs.HoldLaws.{here_from, hold-never, hold-since, hold-during}
use Rattle.model.proofs.timetable.Timetable.hold_by.Goals as goal

pub returns-then-not-is_placed-clause-result_value : goal.returns-then-not-is_placed-clause-result_value
returns-then-not-is_placed-clause-result_value c =
    let t = c.args.self.now in
    hold-never (instance_in t.job) (schedule_in t) (as_colour c.args.colour) c.args.k c.maker-maker.ensures.value (sym c.is_placed.ensures ∙ c.if-not-is_placed.true)

pub returns-then-is_placed-clause-result_value : goal.returns-then-is_placed-clause-result_value
returns-then-is_placed-clause-result_value c =
    let t = c.args.self.now in
    c.closed_hold.ensures.result_value
    ∙ hold-during (instance_in t.job) (schedule_in t) (as_colour c.args.colour) c.args.k c.maker-maker.ensures.value c.reader.ensures.value
    (sym c.is_placed.ensures ∙ c.if-not-is_placed.false) (here_from _ _ c.colour_of.ensures c.eq-here.ensures) c.args.times
    (sym c.is_placed-2.ensures ∙ c.if-is_placed.true) c.requires.times_of

pub returns-clause-result_value : goal.returns-clause-result_value
returns-clause-result_value c =
    let t = c.args.self.now in
    c.open_hold.ensures.result_value
    ∙ hold-since (instance_in t.job) (schedule_in t) (as_colour c.args.colour) c.args.k c.maker-maker.ensures.value c.reader.ensures.value
    (sym c.is_placed.ensures ∙ c.if-not-is_placed.false) (here_from _ _ c.colour_of.ensures c.eq-here.ensures)
    (sym c.is_placed-2.ensures ∙ c.if-is_placed.false)
    (c.requires.times_of.begun ∙ ap (start_at (schedule_in t)) (sym c.maker-maker.ensures.value))
