-- `convert_instance` meets its contract: refused by 41 or 42, or the converted job's sheet is written.
use mathlib.Core.Path.{sym, ap, ◌∙◌}
use Rattle.rules.specs.InstanceText.{instance_text}
use Rattle.rules.specs.Conversion.{output}
use Rattle.model.specs.Jobs.{instance_in}
use Rattle.convert_text.proofs.RefusalLaws.{passes}
use Rattle.convert_text.proofs.SheetLaws.{wide_bounds}
use Rattle.convert_text.proofs.convert.convert_instance.Goals as goal

pub job-requires : goal.job-requires
job-requires c = wide_bounds c.in_ok-convert_job.ensures c.requires

pub returns : goal.returns
returns c =
    let I = instance_in c.args.job.now in
    let x = c.in_ok-convert_job.ensures in
    c.write_sheet.ensures ∙ ap (λ K. output (instance_text K) c.args.out.now) (c.job.ensures ∙ x.is_converted) ∙ sym (passes I x.convertible c.args.out.now _)
