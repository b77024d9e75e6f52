-- `plan` meets its contract: an accepted sheet is planned, any other refused; the answer and the buffer are the definition's, and so keep the demands.
use mathlib.Core.Path.{sym, ◌∙◌}
use Rattle.frames.specs.Planners.{as_planner}
use Rattle.frames.proofs.DemandLaws.{planner-demands, aware-demands, plain-demands, two-trials}
use Rattle.frames.proofs.PlanLaws.{plan-on, unread}
use Rattle.frames.proofs.planners.plan.Goals as goal

pub returns-in-Err : goal.returns-in-Err
returns-in-Err c =
    let R = as_planner c.args.planner in
    let sheet = c.args.sheet.now in
    let out = c.args.out.now in
    let e = unread R sheet out c.in-Err.refusal c.in-Err.ensures.answer in record {
      answer = e;
      planner_demands = planner-demands R sheet out e;
      aware_demands = λ m. aware-demands R sheet out m e;
      plain_demands = λ m. plain-demands R sheet out m e;
      two_trials_a_task = λ m. two-trials sheet out (rw m at e);
    }

pub returns-in-Ok : goal.returns-in-Ok
returns-in-Ok c =
    let R = as_planner c.args.planner in
    let sheet = c.args.sheet.now in
    let out = c.args.out.now in
    let e = (rw c.rule.ensures at c.plan_instance.ensures) ∙ sym (plan-on R sheet out _ c.in-Ok.ensures.answer) in record {
      answer = e;
      planner_demands = planner-demands R sheet out e;
      aware_demands = λ m. aware-demands R sheet out m e;
      plain_demands = λ m. plain-demands R sheet out m e;
      two_trials_a_task = λ m. two-trials sheet out (rw m at e);
    }
