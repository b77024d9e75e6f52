-- `convert_job` meets its contract: 41 before 42, or the converted job's numbers.
use native.Mathlib.Omega.{arith}
use Rattle.convert_text.proofs.RefusalLaws.{many-tasks, many-files, convertible}
use Rattle.convert_text.proofs.convert.convert_job.Goals as goal

pub returns-then-more-job-gt-MAX_TASKS : goal.returns-then-more-job-gt-MAX_TASKS
returns-then-more-job-gt-MAX_TASKS c =
    let j = c.args.job.now in
    many-tasks j (c.added-more.ensures.value j.board j.files.now) (omega (arith, c.if-more-job-gt-MAX_TASKS.true))

pub returns-then-more-job-gt-MAX_FILES : goal.returns-then-more-job-gt-MAX_FILES
returns-then-more-job-gt-MAX_FILES c =
    let j = c.args.job.now in
    many-files j (c.added-more.ensures.value j.board j.files.now) (omega (arith, c.if-more-job-gt-MAX_TASKS.false)) (omega (arith, c.if-more-job-gt-MAX_FILES.true))

pub returns : goal.returns
returns c =
    let j = c.args.job.now in record {
      convertible = convertible j (c.added-more.ensures.value j.board j.files.now) (omega (arith, c.if-more-job-gt-MAX_TASKS.false))
          (omega (arith, c.if-more-job-gt-MAX_FILES.false));
      is_converted = c.convert.ensures;
    }
