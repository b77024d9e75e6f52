-- `strip_paper` meets its contract: refused by 41 or 42, or as the marker refuses the timetable, or what is left of it is written.
use mathlib.Core.Path.{refl, sym, ◌∙◌}
use Rattle.std.proofs.lemmas.Result.{err_from_is_err_and}
use Rattle.rules.proofs.ConversionLaws.{converted-formed}
use Rattle.model.specs.Jobs.{instance_in}
use Rattle.convert_text.proofs.RefusalLaws.{passes, numbered}
use Rattle.convert_text.proofs.SheetLaws.{wide_bounds, wide-schedule}
use Rattle.convert_text.proofs.LeftLaws.{left-refused, left-made, left-good}
use Rattle.convert_text.proofs.strip.strip_paper.Goals as goal

pub job-requires : goal.job-requires
job-requires c = wide_bounds c.in_ok-convert_job.ensures c.requires

pub mark_into-requires : goal.mark_into-requires
mark_into-requires c =
    let x = c.in_ok-convert_job.ensures in
    rw (c.job.ensures ∙ x.is_converted) (converted-formed (instance_in c.args.job.now) c.requires x.convertible)

pub returns-in_err-mark_into : goal.returns-in_err-mark_into
returns-in_err-mark_into c =
    let x = c.in_ok-convert_job.ensures in
    let old = c.args.out.now in
    let p = err_from_is_err_and c.from_residual-in_err-mark_into.result c.from_residual-in_err-mark_into.ensures.1 in
    let same = c.job.ensures ∙ x.is_converted in
    rw (p.1, p.2)
    (left-refused x.convertible same (wide-schedule (instance_in c.args.job.now) c.job.result same c.mark_into.new.schedule) c.args.paper.now c.in_err-mark_into.ensures old (numbered c.in_err-mark_into.field-0.0)
    ∙ sym (passes (instance_in c.args.job.now) x.convertible old _))

pub write_left-requires-clause-spellable : goal.write_left-requires-clause-spellable
write_left-requires-clause-spellable c =
    let x = c.in_ok-convert_job.ensures in
    let same = c.job.ensures ∙ x.is_converted in
    (left-good x.convertible same (wide-schedule (instance_in c.args.job.now) c.job.result same c.mark_into.new.schedule) c.args.paper.now c.in_ok-mark_into.ensures c.requires refl).0

pub write_left-requires-clause-all_on_time : goal.write_left-requires-clause-all_on_time
write_left-requires-clause-all_on_time c =
    let x = c.in_ok-convert_job.ensures in
    let same = c.job.ensures ∙ x.is_converted in
    (left-good x.convertible same (wide-schedule (instance_in c.args.job.now) c.job.result same c.mark_into.new.schedule) c.args.paper.now c.in_ok-mark_into.ensures c.requires refl).1

pub returns : goal.returns
returns c =
    let x = c.in_ok-convert_job.ensures in
    let same = c.job.ensures ∙ x.is_converted in
    c.write_left.ensures
    ∙ left-made x.convertible same (wide-schedule (instance_in c.args.job.now) c.job.result same c.mark_into.new.schedule) c.args.paper.now c.in_ok-mark_into.ensures c.args.out.now refl
    ∙ sym (passes (instance_in c.args.job.now) x.convertible c.args.out.now _)
