-- `schedule::reader::read` meets its contract: the runs, the moves and the claim, one after the other.
use mathlib.Core.Path.{sym, subst, ◌∙◌}
use Rattle.text.proofs.DueLaws.{is-err}
use Rattle.rules.specs.ScheduleText.{read_schedule}
use Rattle.model.specs.Jobs.{instance_in, schedule_of}
use Rattle.schedule.proofs.ReadLaws.{read-long, read_short, read-complete}
use Rattle.schedule.specs.Reading.{IsRefused, IsRead}
use Rattle.schedule.proofs.reader.read.Goals as goal

pub returns-then-paper-gt-MAX_TEXT-clause-is_read : goal.returns-then-paper-gt-MAX_TEXT-clause-is_read
returns-then-paper-gt-MAX_TEXT-clause-is_read c = read-long _ _ c.if-paper-gt-MAX_TEXT.true

pub returns-in_err-behind_runs-clause-is_read : goal.returns-in_err-behind_runs-clause-is_read
returns-in_err-behind_runs-clause-is_read c =
    rw (is-err _ c.from_residual.ensures.1)
    (subst (IsRefused c.in_err-behind_runs.field-0.0) (sym (read_short (instance_in c.args.job.now) _ c.if-paper-gt-MAX_TEXT.false)) c.in_err-behind_runs.ensures)

pub returns-in_err-behind_moves-clause-is_read : goal.returns-in_err-behind_moves-clause-is_read
returns-in_err-behind_moves-clause-is_read c =
    rw (is-err _ c.from_residual-in_err-behind_moves.ensures.1)
    (subst (IsRefused c.in_err-behind_moves.field-0.0) (sym (read_short (instance_in c.args.job.now) _ c.if-paper-gt-MAX_TEXT.false ∙ c.in_ok-behind_runs.ensures))
    c.in_err-behind_moves.ensures.goes_on)

pub returns : goal.returns
returns c =
    let r : IsRead (schedule_of c.args.job.now c.read_moves.new.schedule) c.read_claim.result (read_schedule (instance_in c.args.job.now) c.args.paper.now) =
    rw (read_short (instance_in c.args.job.now) _ c.if-paper-gt-MAX_TEXT.false, c.in_ok-behind_runs.ensures, c.in_ok-behind_moves.ensures.goes_on)
    (c.read_claim.ensures _) in
    record { complete = read-complete c.args.job.now c.args.paper.now c.read_moves.new.schedule c.read_claim.result r; is_read = r }
