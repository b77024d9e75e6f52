-- `schedule::reader::read_claim` meets its contract: the claim, and no line behind it.
use mathlib.Core.Path.{◌≡◌, sym, ◌∙◌}
use native.Mathlib.Omega.{arith}
use borrow.Author.Tests.{eqb-true, eqb-false}
use Rattle.std.proofs.Common.{rules, of_calls, length}
use Rattle.rules.specs.ScheduleText.{schedule_line, claim_of}
use Rattle.rules.specs.declared.refusal.Refusal.TheVariants.{Timetable}
use Rattle.text.proofs.DueLaws.{is-err, due-taken, due-refused}
use Rattle.model.specs.Claims.{as_claim}
use Rattle.model.specs.Jobs.{instance_in}
use Rattle.schedule.proofs.DueLaws.{claim-refused}
use Rattle.schedule.proofs.ReadLoops.{claim-last, claim-more, extra-fault}
use Rattle.schedule.proofs.reader.read_claim.Goals as goal

pub returns-in_err-due : goal.returns-in_err-due
returns-in_err-due c =
    λ P.
    let I = instance_in c.args.job.now in
    let (w, k, d) = due-refused (schedule_line I) claim_of as_claim c.args.paper.now c.due_claim.result c.due_claim.ensures _ c.map_err.ensures.cases c.in_err-due.was in
    let q : c.in_err-due.field-0.0 ≡ Timetable w c.args.line = search (rules, of_calls) in
    rw (is-err _ c.from_residual.ensures.1, q) (claim-refused I P _ _ _ d)

pub returns-then-is_empty : goal.returns-then-is_empty
returns-then-is_empty c =
    λ P.
    let I = instance_in c.args.job.now in
    let t = due-taken (schedule_line I) claim_of as_claim c.args.paper.now c.due_claim.result c.due_claim.ensures _ c.map_err.ensures.cases c.in_ok-due.was in
    claim-last I P _ t
    (omega (arith, eqb-true _ _ (sym c.is_empty.ensures ∙ c.if-is_empty.true)))

pub returns : goal.returns
returns c =
    λ P.
    let I = instance_in c.args.job.now in
    let t = due-taken (schedule_line I) claim_of as_claim c.args.paper.now c.due_claim.result c.due_claim.ensures _ c.map_err.ensures.cases c.in_ok-due.was in
    let some : length c.in_ok-due.due.rest.now ≡ 0 → ⊥ = eqb-false _ _ (sym c.is_empty.ensures ∙ c.if-is_empty.false) in
    claim-more I P _ t (omega arith) _
    (extra-fault I _ _ c.next_line.ensures ∙ rw (c.unwrap_or-fault.ensures, c.err.ensures.value))
