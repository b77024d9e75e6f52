-- The numbers of the converted job are in their bounds, and a schedule for that job is one of the converted instance.
use mathlib.Core.Path.{◌≡◌, sym, ap, ap₂, ◌∙◌}
use Rattle.rules.specs.Model.{Instance, task_count, file_count}
use Rattle.rules.specs.Promises.{WellFormed}
use Rattle.rules.specs.Conversion.{converted}
use Rattle.rules.specs.declared.Board.{Board}
use Rattle.rules.proofs.ConversionLaws.{converted-formed, tasks-converted, files-converted}
use Rattle.model.specs.declared.job.Job.{Job}
use Rattle.model.specs.declared.layout.Numbers.{Numbers}
use Rattle.model.specs.declared.layout.Schedule.{Schedule as StoredSchedule}
use Rattle.model.specs.Layout.{JobBounds, entries_of, schedule_from}
use Rattle.model.specs.Jobs.{instance_in, schedule_of}
use Rattle.model.proofs.LayoutLaws.{job-bounds}
use Rattle.model.proofs.JobLaws.{tasks-in, files-in}
use Rattle.convert_text.specs.Converts.{Converted, wide_schedule}

pub wide_bounds : {b : Board} {I : Instance} {wide : Numbers} → Converted b I wide → WellFormed I → JobBounds b wide.tasks.items wide.files.items
wide_bounds {b} {I} {wide} c W = job-bounds b wide.tasks.items wide.files.items (rw c.is_converted (converted-formed I W c.convertible))

module _ (I : Instance) (j : Job) (same : instance_in j ≡ converted I) where
  pub wide-schedule : (xs : StoredSchedule) → schedule_of j xs ≡ wide_schedule I xs
  wide-schedule xs =
      ap₂ (λ n k. schedule_from n k (entries_of xs))
      (sym (tasks-in j) ∙ ap task_count same ∙ tasks-converted I)
      (sym (files-in j) ∙ ap file_count same ∙ files-converted I)
