-- `instance::build::add_file` meets its contract: the file is allowed, and its numbers are stored.
use mathlib.Core.Path.{sym, ◌∙◌}
use Rattle.instance.proofs.BuildLaws.{least_board, file-refused, file-room, file-taken}
use Rattle.instance.proofs.build.add_file.Goals as goal

pub returns-then-not-file_allowed : goal.returns-then-not-file_allowed
returns-then-not-file_allowed c =
    let a = c.args in
    λ b. file-refused b a.numbers.now a.i a.j a.size a.time (sym (c.file_allowed.ensures b) ∙ c.if-not-file_allowed.true)

pub push_file-requires : goal.push_file-requires
push_file-requires c =
    let a = c.args in
    (file-room least_board a.numbers.now a.i a.j (sym (c.file_allowed.ensures least_board) ∙ c.if-not-file_allowed.false)).1

pub returns : goal.returns
returns c =
    let a = c.args in
    λ b. file-taken b a.numbers.now c.push_file.new.self a.i a.j a.size a.time (sym (c.file_allowed.ensures b) ∙ c.if-not-file_allowed.false)
    c.push_file.ensures.files c.push_file.ensures.tasks
