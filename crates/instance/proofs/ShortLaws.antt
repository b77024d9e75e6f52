-- How long the text of an instance in its bounds can be: no line has more than `longest` bytes.
use Prim.Native.Nat.{ℕ, suc, ◌+◌, ◌*◌, ◌^◌, ◌≤◌, ◌<◌}
use mathlib.Core.List.{List, ◌++◌}
use native.Mathlib.Omega.{arith}
use borrow.Author.Tests.{eqb-true, eqb-false}
use lib.Dec.{eqb}
use lib.ListN.{length, length-append}
use Rattle.rules.specs.BoardType.{side_from}
use Rattle.rules.specs.Text.{lf}
use Rattle.rules.specs.InstanceText.{board_form, task_form, work_form, file_form, board_line, instance_bytes, task_lines, file_lines, instance_text}
use Rattle.rules.proofs.Tests.{split}
use Rattle.text.proofs.SizeLaws.{end, word, line-short, pieces-short}
use Rattle.model.specs.declared.job.Job.{Job}
use Rattle.model.specs.Layout.{stored_task, stored_file, JobBounds}
use Rattle.model.specs.Jobs.{instance_in}
use Rattle.model.proofs.JobLaws.{task-in, file-in}
use Rattle.instance.proofs.TextLaws.{task_piece, file_piece, task-pieces, file-pieces, without-work, with-work, text-pieces}

-- a number of 64 bits has at most 20 digits, no form has more signs than the board's, and LF is one byte
abbrev longest : ℕ
longest = 20 * length board_form + 1

module _ (j : Job) where
  abbrev h : JobBounds j.board j.tasks.now j.files.now
  h = j.in_bounds

  abbrev board_piece : List ℕ
  board_piece = instance_bytes (board_line (side_from j.board.blue) (side_from j.board.red)) ++ lf

  board-short : length board_piece ≤ longest
  board-short =
      line-short board_form
      (word (omega (arith, h.processors.blue.most)) (word (omega (arith, h.blue_limit)) (word (omega (arith, h.processors.red.most)) (word (omega (arith, h.red_limit)) end))))

  task-short : (i : ℕ) → i < length j.tasks.now → length (task_piece (instance_in j) i) ≤ longest
  task-short i l =
      let x : (stored_task j.tasks.now i).on_blue < 2 ^ 64 = omega (arith, h.on_blue i l) in
      let y : (stored_task j.tasks.now i).on_red < 2 ^ 64 = omega (arith, h.on_red i l) in
      let z : (stored_task j.tasks.now i).work < 2 ^ 64 = omega (arith, h.work i l) in
      let n : suc i < 2 ^ 64 = omega (arith, h.tasks) in
      rw (task-in j i)
      (split (eqb ((stored_task j.tasks.now i).work) 0)
      (λ e. rw (← without-work (suc i) ((stored_task j.tasks.now i).on_blue) ((stored_task j.tasks.now i).on_red) ((stored_task j.tasks.now i).work) (eqb-true _ _ e))
      (omega (arith, line-short task_form (word n (word x (word y end))))))
      (λ e. rw (← with-work (suc i) ((stored_task j.tasks.now i).on_blue) ((stored_task j.tasks.now i).on_red) ((stored_task j.tasks.now i).work) (eqb-false _ _ e))
      (omega (arith, line-short work_form (word n (word x (word y (word z end))))))))

  file-short : (k : ℕ) → k < length j.files.now → length (file_piece (instance_in j) k) ≤ longest
  file-short k l =
      let m : suc ((stored_file j.files.now k).maker) < 2 ^ 64 = omega (arith, h.maker k l, h.tasks) in
      let r : suc ((stored_file j.files.now k).reader) < 2 ^ 64 = omega (arith, h.reader k l, h.tasks) in
      let s : (stored_file j.files.now k).size < 2 ^ 64 = omega (arith, h.size k l) in
      let t : (stored_file j.files.now k).move_time < 2 ^ 64 = omega (arith, (h.move_time k l).most) in
      rw (file-in j k) (omega (arith, line-short file_form (word m (word r (word s (word t end))))))

  pub sheet-short : length (instance_text (instance_in j)) < 2 ^ 64
  sheet-short =
      let I = instance_in j in
      let t = pieces-short longest (task-pieces I) (length j.tasks.now) task-short in
      let f = pieces-short longest (file-pieces I) (length j.files.now) file-short in
      rw (text-pieces j)
      (omega (arith, length-append (board_piece ++ task_lines I (length j.tasks.now)) (file_lines I (length j.files.now)), length-append board_piece (task_lines I (length j.tasks.now)), t, f, board-short, h.tasks, h.files))
