-- The text of a board sheet as pieces: the board's line, a line for each task and a line for each file.
use lib.ListN.{length}
use Prim.Native.Nat.{ℕ, ◌+◌}
use mathlib.Core.Path.{◌≡◌, ◌∙◌}
use mathlib.Core.List.{List, [], ◌∷◌, ◌++◌, append_assoc}
use native.Mathlib.Numerals.{add-one}
use borrow.Author.Tests.{eq-eqb, ne_eqb}
use Rattle.rules.specs.BoardType.{side_from}
use Rattle.rules.specs.Model.{Instance, task_at, file_at}
use Rattle.rules.specs.Text.{lf, fill}
use Rattle.rules.specs.InstanceText.{task_form, work_form, board_line, task_line, file_line, instance_bytes, task_lines, file_lines, instance_text}
use Rattle.rules.proofs.InstanceTextLaws.{task_said, file_said, tasks-none, files-none, tasks-next, files-next, text-parts}
use Rattle.text.proofs.SinkLaws.{Pieces}
use Rattle.model.specs.declared.job.Job.{Job}
use Rattle.model.specs.Layout.{instance_of}
use Rattle.model.specs.Jobs.{instance_in}
use Rattle.model.proofs.JobLaws.{tasks-in, files-in}

-- ---- a task's line, by whether W is left out
module _ (i b r w : ℕ) where
  pub without-work : w ≡ 0 → fill task_form (i ∷ b ∷ r ∷ []) ++ lf ≡ instance_bytes (task_line i (record { on_blue = b; on_red = r; work = w })) ++ lf
  without-work e = rw (eq-eqb w 0 e)

  pub with-work : (w ≡ 0 → ⊥) → fill work_form (i ∷ b ∷ r ∷ w ∷ []) ++ lf ≡ instance_bytes (task_line i (record { on_blue = b; on_red = r; work = w })) ++ lf
  with-work n = rw (ne_eqb w 0 n)

-- ---- the lines of the tasks and of the files

-- the piece of task i, and the piece of file k
abbrev pub task_piece : Instance → ℕ → List ℕ
task_piece I i = instance_bytes (task_said i (task_at I i)) ++ lf

abbrev pub file_piece : Instance → ℕ → List ℕ
file_piece I k = instance_bytes (file_said (file_at I k)) ++ lf

pub task-pieces : (I : Instance) → Pieces (task_lines I) (task_piece I)
task-pieces I =
    record { none = tasks-none I; grow = λ i. tasks-next I i ∙ append_assoc (task_lines I i) (instance_bytes (task_said i (task_at I i))) lf }

pub file-pieces : (I : Instance) → Pieces (file_lines I) (file_piece I)
file-pieces I =
    record { none = files-none I; grow = λ k. files-next I k ∙ append_assoc (file_lines I k) (instance_bytes (file_said (file_at I k))) lf }

-- ---- from what the code reads
module _ (I : Instance) where
  pub task-piece : (i x y w : ℕ) → x ≡ (task_at I i).on_blue → y ≡ (task_at I i).on_red → w ≡ (task_at I i).work
      → instance_bytes (task_line (i + 1) (record { on_blue = x; on_red = y; work = w })) ++ lf ≡ task_piece I i
  task-piece i x y w p q r = rw (add-one i, p, q, r)

  pub file-piece : (k m d s t : ℕ) → m ≡ (file_at I k).maker → d ≡ (file_at I k).reader → s ≡ (file_at I k).size → t ≡ (file_at I k).move_time
      → instance_bytes (file_line (m + 1) (d + 1) s t) ++ lf ≡ file_piece I k
  file-piece k m d s t p q u v = rw (p, q, u, v, add-one (file_at I k).maker, add-one (file_at I k).reader)

module _ (j : Job) where
  -- ---- the whole text
  abbrev I : Instance
  I = instance_in j

  abbrev board_part : List ℕ
  board_part = instance_bytes (board_line (side_from j.board.blue) (side_from j.board.red)) ++ lf

  abbrev tasks_part : List ℕ
  tasks_part = task_lines I (length j.tasks.now)

  abbrev files_part : List ℕ
  files_part = file_lines I (length j.files.now)

  pub text-pieces : instance_text I ≡ (board_part ++ tasks_part) ++ files_part
  unfolding instance_of
  text-pieces = text-parts I ∙ rw (tasks-in j, files-in j) (simp append_assoc)
