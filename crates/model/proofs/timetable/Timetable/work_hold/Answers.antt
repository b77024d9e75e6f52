-- `work_hold` meets its contract: the rules' hold by whether the task has W, and whether it runs on the colour.
use Rattle.std.proofs.Common.{◌≡◌, ◌∙◌, sym}
use Rattle.rules.specs.Residency.{never, work_of}
use Rattle.model.specs.Colours.{as_colour}
use Rattle.model.specs.Jobs.{instance_in, schedule_in}
use Rattle.model.proofs.HoldLaws.{work-idle, work-elsewhere, work-during}
use Rattle.model.proofs.timetable.Timetable.work_hold.Goals as goal
use Rattle.model.proofs.timetable.Timetable.work_hold.Goals.{then-work-eq0-via-then-work-eq0, then-work-eq0-via-else-work-eq0+then-not-runs_on}

pub returns-then-work-eq0-clause-result_value : goal.returns-then-work-eq0-clause-result_value
returns-then-work-eq0-clause-result_value c =
    let t = c.args.self.now in
    let x = as_colour c.args.colour in
    elim c.then-work-eq0.branch as (λ _. never ≡ work_of (instance_in t.job) (schedule_in t) x c.args.i) [
      | then-work-eq0-via-then-work-eq0 w ↦ work-idle (instance_in t.job) (schedule_in t) x c.args.i c.work.ensures.value w.if-work-eq0.true
      | then-work-eq0-via-else-work-eq0+then-not-runs_on w ↦ work-elsewhere (instance_in t.job) (schedule_in t) x c.args.i (sym w.runs_on.ensures ∙ w.if-not-runs_on.true)
    ]

pub returns-clause-result_value : goal.returns-clause-result_value
returns-clause-result_value c =
    let t = c.args.self.now in
    work-during (instance_in t.job) (schedule_in t) (as_colour c.args.colour) c.args.i c.work.ensures.value c.if-work-eq0.false
    (sym c.runs_on.ensures ∙ c.if-not-runs_on.false) c.start-begun.ensures.value c.release-released.ensures.value
