-- What a line says, from the numbers that each form finds in it.
use Prim.Native.Nat.{ℕ, ◌≤◌, ◌<◌}
use mathlib.Core.Path.{◌≡◌, refl, ap}
use mathlib.Core.List.{List, [], ◌∷◌}
use mathlib.Core.Option.{none, some}
use native.Mathlib.Omega.{arith}
use lib.ListN.{length}
use Rattle.rules.specs.Text.{Fault, ascii, ended, unended, lines_of, wrong, right, malformed, due}
use Rattle.rules.specs.InstanceText.{InstanceLine, board_form, task_form, work_form, file_form}
use Rattle.rules.specs.InstanceText.{as_board, as_task, as_work, as_file, instance_line_by, instance_line}
use Rattle.rules.proofs.Tests.{by_order}
use Rattle.text.specs.FirstLine.{first_line}
use Rattle.text.specs.Cut.{scan_ended, Cut}
use Rattle.text.proofs.FirstLineLaws.{no_line, line-within, line-ended, line-unended}
use Rattle.text.proofs.CutLaws.{ended_some, ended-none, other-form, cut-lines, cut-left}
use Rattle.text.specs.Due.{first_says, Took}

-- ---- the form that a text's first line has

-- the forms' words, and what follows each
abbrev board_word : List ℕ
board_word = ascii "(board (blue "

abbrev task_word : List ℕ
task_word = ascii "(task "

abbrev file_word : List ℕ
file_word = ascii "(file "

abbrev board_rest : List ℕ
board_rest = ascii "# #) (red # #))"

abbrev three : List ℕ
three = ascii "# # #)"

abbrev four : List ℕ
four = ascii "# # # #)"

-- what the line says by its form
module _ (text vs : List ℕ) where
  says-board : scan_ended board_form text ≡ some vs → as_board vs ≡ instance_line (ended (first_line text))
  unfolding instance_line_by
  says-board e = rw (ended_some board_form text vs e).scanned

  says-task : scan_ended task_form text ≡ some vs → as_task vs ≡ instance_line (ended (first_line text))
  unfolding instance_line_by
  says-task e =
      let f = ended_some task_form text vs e in
      let b = other-form task_word three board_word board_rest text vs refl refl refl e in
      rw (ended-none board_form text b f.short, f.scanned)

  says-work : scan_ended task_form text ≡ none → scan_ended work_form text ≡ some vs → as_work vs ≡ instance_line (ended (first_line text))
  unfolding instance_line_by
  says-work t e =
      let f = ended_some work_form text vs e in
      let b = other-form task_word four board_word board_rest text vs refl refl refl e in
      rw (ended-none board_form text b f.short, ended-none task_form text t f.short, f.scanned)

  says-file : scan_ended file_form text ≡ some vs → as_file vs ≡ instance_line (ended (first_line text))
  unfolding instance_line_by
  says-file e =
      let f = ended_some file_form text vs e in
      let b = other-form file_word four board_word board_rest text vs refl refl refl e in
      let t = other-form file_word four task_word three text vs refl refl refl e in
      let w = other-form file_word four task_word four text vs refl refl refl e in
      rw (ended-none board_form text b f.short, ended-none task_form text t f.short, ended-none work_form text w f.short, f.scanned)

-- ---- the line that was cut
module _ (form text : List ℕ) {line found rest : List ℕ} (r : Cut (scan_ended form text) text line found rest) where
  pub cut-right : (p : InstanceLine) → right p ≡ instance_line (ended (first_line text)) → Took instance_line some text rest p
  cut-right p e =
      record {
        line = ended line;
        lines = cut-lines form text r;
        due = rw (r.first, ← e);
        shorter = omega (arith, cut-left form text r);
      }

  pub cut-wrong : (w : Fault) → wrong w ≡ instance_line (ended (first_line text)) → due some (first_says instance_line (lines_of text)) ≡ wrong w
  cut-wrong w e = rw (cut-lines form text r, r.first, ← e)

-- what its numbers say
module _ (text : List ℕ) {line found rest : List ℕ} where
  pub file-says : (r : Cut (scan_ended file_form text) text line found rest) → as_file found ≡ instance_line (ended (first_line text))
  file-says r = rw r.stored (says-file text r.values r.scanned)

  pub task-says : (r : Cut (scan_ended task_form text) text line found rest) → as_task found ≡ instance_line (ended (first_line text))
  task-says r = rw r.stored (says-task text r.values r.scanned)

  pub work-says : scan_ended task_form text ≡ none → (r : Cut (scan_ended work_form text) text line found rest)
      → as_work found ≡ instance_line (ended (first_line text))
  work-says n r = rw r.stored (says-work text r.values n r.scanned)

  pub board-says : (r : Cut (scan_ended board_form text) text line found rest) → as_board found ≡ instance_line (ended (first_line text))
  board-says r = rw r.stored (says-board text r.values r.scanned)

-- a line without its LF, or none, and a line of no form
unended-unread : (l : List ℕ) → instance_line (unended l) ≡ wrong malformed
unfolding instance_line_by
unended-unread l = refl

unended-says : (t : List ℕ) → length t ≤ length (first_line t) → first_says instance_line (lines_of t) ≡ wrong malformed
unended-says [] h = rw no_line
unended-says (b ∷ bs) h = rw (line-unended (b ∷ bs) (omega arith) (omega (arith, line-within (b ∷ bs)))) (unended-unread (b ∷ bs))

module _ (text : List ℕ) (f : scan_ended file_form text ≡ none) (t : scan_ended task_form text ≡ none) (w : scan_ended work_form text ≡ none)
    (b : scan_ended board_form text ≡ none) where
  ended-unread : length (first_line text) < length text → instance_line (ended (first_line text)) ≡ wrong malformed
  unfolding instance_line_by
  ended-unread h = rw (ended-none board_form text b h, ended-none task_form text t h, ended-none work_form text w h, ended-none file_form text f h)

  pub no-form : due some (first_says instance_line (lines_of text)) ≡ wrong malformed
  no-form =
      ap (due some)
      (by_order (length (first_line text)) (length text)
      (λ h. rw (line-ended text h) (ended-unread h))
      (λ h. unended-says text h))
