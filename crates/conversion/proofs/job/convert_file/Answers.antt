-- `convert_file` meets its contract.
use Rattle.conversion.proofs.ConvertedLaws.{file-from}
use Rattle.conversion.proofs.StoredLaws.{files-stored, file-more}
use Rattle.conversion.proofs.job.convert_file.Goals as goal
use native.Mathlib.Omega.{arith}

pub push_file-requires : goal.push_file-requires
push_file-requires c = omega (arith, files-stored c.requires.stored)

pub returns : goal.returns
returns c =
    let push = c.push_file.ensures in
    file-more c.requires.stored push.files push.tasks
    (file-from c.args.job.now c.requires.added_value c.requires.k_lt_files c.maker-maker.ensures.value c.reader-reader.ensures.value c.size.ensures.value c.move_time.ensures.value)
