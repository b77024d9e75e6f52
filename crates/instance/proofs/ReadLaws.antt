-- Reading a board sheet line by line: the answer for the whole sheet is that for the lines still to read.
use Prim.Native.Nat.{ℕ, suc, ◌+◌, ◌≤◌, ◌<◌}
use mathlib.Core.Path.{◌≡◌, refl, ap, ◌∙◌}
use mathlib.Core.List.{List, [], ◌∷◌}
use mathlib.Core.Option.{some}
use native.Mathlib.Omega.{arith}
use native.Mathlib.Numerals.{add-one}
use borrow.Author.Tests.{eq-eqb, ne_eqb, le-leb, lt-leb}
use lib.ListN.{length, drop_of_length-le}
use Rattle.rules.specs.Limits.{max_text}
use Rattle.rules.specs.Model.{Instance}
use Rattle.rules.specs.Text.{Fault, too_long, malformed, Line, lines_of, wrong, right, due}
use Rattle.rules.specs.InstanceText.{refused, accepted, with_board, with_line, instance_line}
use Rattle.rules.specs.InstanceText.{read_rest_by, read_rest, read_lines_by, read_lines, read_instance_by, read_instance}
use Rattle.rules.proofs.LineLaws.{no_lines}
use Rattle.rules.proofs.InstanceLineLaws.{line-says}
use Rattle.text.proofs.FirstLineLaws.{no_line}
use Rattle.model.specs.Layout.{instance_of, instance_with, no_numbers}
use Rattle.model.specs.declared.layout.Numbers.{Numbers}
use Rattle.rules.specs.declared.Board.{Board as AnyBoard}
use Rattle.model.proofs.LayoutLaws.{task-count}
use Rattle.instance.specs.declared.line.Line.{Line as Parsed}
use Rattle.instance.specs.declared.line.Line.TheVariants.{Board, Task, File}
use Rattle.instance.specs.Lines.{as_line, Numbered}
use Rattle.instance.specs.Steps.{board_alone}
use Rattle.text.specs.Due.{first_says, Took}
use Rattle.text.proofs.DueLaws.{said_as}

-- the task numbers of a line that was read are in their range
pub numbered : {text rest : List ℕ} (p : Parsed) → Took instance_line some text rest (as_line p) → Numbered p
numbered (Board b) t = tt
numbered (Task i b r w) t = (line-says t.line _ (said_as (instance_line t.line) _ t.due)).2.ranged.0
numbered (File i j f c) t = let r = (line-says t.line _ (said_as (instance_line t.line) _ t.due)).2.ranged in (r.0, r.1)

-- ---- the definitions, one line at a time
module _ (I : Instance) (k : ℕ) where
  rest-wrong : (l : Line) (ls : List Line) (w : Fault) → due (with_line I) (instance_line l) ≡ wrong w → read_rest I k (l ∷ ls) ≡ refused w k
  unfolding read_rest_by
  rest-wrong l ls w e = rw (e, read_rest_by)

  rest-right : (l : Line) (ls : List Line) (J : Instance) → due (with_line I) (instance_line l) ≡ right J → read_rest I k (l ∷ ls) ≡ read_rest J (suc k) ls
  unfolding read_rest_by
  rest-right l ls J e = rw (e, read_rest_by)

  rest-refused : (ls : List Line) (w : Fault) → due (with_line I) (first_says instance_line ls) ≡ wrong w → (ls ≡ [] → ⊥) → read_rest I k ls ≡ refused w k
  rest-refused [] w e h = absurd (h refl)
  rest-refused (l ∷ ls) w e h = rest-wrong l ls w e

lines-wrong : (l : Line) (ls : List Line) (w : Fault) → due with_board (instance_line l) ≡ wrong w → read_lines (l ∷ ls) ≡ refused w 1
unfolding read_lines_by
lines-wrong l ls w e = rw (e, read_lines_by)

lines-right : (l : Line) (ls : List Line) (I : Instance) → due with_board (instance_line l) ≡ right I → read_lines (l ∷ ls) ≡ read_rest I 2 ls
unfolding read_lines_by
lines-right l ls I e = rw (e, read_lines_by)

lines-refused : (ls : List Line) (w : Fault) → due with_board (first_says instance_line ls) ≡ wrong w → read_lines ls ≡ refused w 1
unfolding read_lines_by
lines-refused [] w e = cc
lines-refused (l ∷ ls) w e = lines-wrong l ls w e

-- ---- the loop over the lines behind the board's
pub record Reading (b : AnyBoard) (sheet : List ℕ) (old xs : Numbers) (rest : List ℕ) (k : ℕ) : Type 0 where
  pub places : k + length rest ≤ 2 + length sheet
  pub left : read_rest (instance_with b old) 2 (lines_of sheet) ≡ read_rest (instance_with b xs) k (lines_of rest)

pub reading-start : (b : AnyBoard) (sheet : List ℕ) (old : Numbers) → Reading b sheet old old sheet 2
reading-start b sheet old = record { places = omega arith; left = refl }

module _ {b : AnyBoard} {sheet : List ℕ} {old xs : Numbers} {rest : List ℕ} {k : ℕ} (inv : Reading b sheet old xs rest k) where
  -- a line that is refused
  pub reading-refused : 0 < length rest → (w : Fault) → due (with_line (instance_with b xs)) (first_says instance_line (lines_of rest)) ≡ wrong w
      → read_rest (instance_with b old) 2 (lines_of sheet) ≡ refused w k
  reading-refused h w d = inv.left ∙ rest-refused _ k (lines_of rest) w d (λ e. omega (arith, ap length (no_lines rest e)))

  -- a line that is taken
  pub reading-next : {behind : List ℕ} (ys : Numbers) → Took instance_line (with_line (instance_with b xs)) rest behind (instance_with b ys)
      → Reading b sheet old ys behind (k + 1)
  reading-next ys t =
      record {
        places = omega (arith, inv.places, t.shorter);
        left = inv.left ∙ rw (t.lines, add-one k) (rest-right _ k t.line _ _ t.due);
      }

  -- no line is left
  module _ (h : length rest ≤ 0) where
    none_left : read_rest (instance_with b old) 2 (lines_of sheet) ≡ read_rest (instance_with b xs) k []
    none_left = inv.left ∙ rw (drop_of_length-le rest {i = 0} h, no_line)

    pub reading-absent : length xs.tasks.items ≡ 0 → read_rest (instance_with b old) 2 (lines_of sheet) ≡ refused malformed k
    unfolding read_rest_by
    reading-absent z = none_left ∙ rw (task-count b xs.tasks.items xs.files.items, eq-eqb _ _ z)

    pub reading-done : (length xs.tasks.items ≡ 0 → ⊥) → read_rest (instance_with b old) 2 (lines_of sheet) ≡ accepted (instance_with b xs)
    unfolding read_rest_by
    reading-done z = none_left ∙ rw (task-count b xs.tasks.items xs.files.items, ne_eqb _ _ z)

-- ---- the whole sheet
module _ (sheet : List ℕ) where
  pub sheet-long : max_text < length sheet → read_instance sheet ≡ refused too_long 0
  unfolding read_instance_by
  sheet-long h = rw (lt-leb _ _ h, read_instance_by)

  module _ (h : length sheet ≤ max_text) where
    by_lines : read_instance sheet ≡ read_lines (lines_of sheet)
    unfolding read_instance_by
    by_lines = rw (le-leb _ _ h, read_instance_by)

    pub sheet-refused : (w : Fault) → due with_board (first_says instance_line (lines_of sheet)) ≡ wrong w → read_instance sheet ≡ refused w 1
    sheet-refused w e = by_lines ∙ lines-refused (lines_of sheet) w e

    pub sheet-begun : {rest : List ℕ} {I : Instance} → Took instance_line with_board sheet rest I → read_instance sheet ≡ read_rest I 2 (lines_of rest)
    sheet-begun t = by_lines ∙ rw t.lines (lines-right t.line _ _ t.due)

-- the instance of a board, before the first task
pub alone : (b : AnyBoard) → board_alone b ≡ instance_with b no_numbers
unfolding instance_of
alone b = refl
