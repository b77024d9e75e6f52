-- `write_left` meets its contract: what is left is in its bounds and on time, and is written with its true claim.
use Rattle.std.proofs.Common.{◌≡◌, ◌∙◌, ap, arith}
use Rattle.rules.specs.Calls.{plan_text}
use Rattle.rules.specs.Conversion.{without_trials, output}
use Rattle.model.specs.Jobs.{instance_in, schedule_of}
use Rattle.convert_text.specs.Converts.{left_in}
use Rattle.convert_text.proofs.RefusalLaws.{fits}
use Rattle.convert_text.proofs.LeftLaws.{left-bounds, left-placed, left-is}
use Rattle.convert_text.proofs.strip.write_left.Goals as goal

pub strip-requires : goal.strip-requires
strip-requires c =
    let j = c.args.job.now in
    let few = fits j (c.added.ensures.value j.board j.files.now) c.requires.convertible in
    (omega (arith, few.0), omega (arith, few.1))

pub invariant_of-timetable : goal.invariant_of-timetable
invariant_of-timetable c =
    let j = c.args.job.now in
    let left = left-is j c.args.schedule.now _ c.added.result (c.added.ensures.value j.board j.files.now) c.strip.ensures in
    record { in_bounds = left-bounds j c.strip.new.to _ left c.requires.spellable }

pub true_claim-requires-clause-placed : goal.true_claim-requires-clause-placed
true_claim-requires-clause-placed c =
    let j = c.args.job.now in
    left-placed j c.strip.new.to _ (left-is j c.args.schedule.now _ c.added.result (c.added.ensures.value j.board j.files.now) c.strip.ensures) c.requires.spellable

pub true_claim-requires-clause-all_on_time : goal.true_claim-requires-clause-all_on_time
true_claim-requires-clause-all_on_time c =
    let j = c.args.job.now in
    rw (left-is j c.args.schedule.now _ c.added.result (c.added.ensures.value j.board j.files.now) c.strip.ensures) c.requires.all_on_time

pub returns : goal.returns
returns c =
    let j = c.args.job.now in
    let left = left-is j c.args.schedule.now _ c.added.result (c.added.ensures.value j.board j.files.now) c.strip.ensures in
    ap without_trials (c.write_plan.ensures 0) ∙ ap (λ P. output (plan_text (instance_in j) P) c.args.out.now) left
