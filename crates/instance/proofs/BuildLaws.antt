-- Which line is due, by what was read so far, and what is taken from it.
use Prim.Native.Nat.{ℕ, suc, pred, ◌+◌, ◌-◌, ◌<◌}
use mathlib.Core.Path.{◌≡◌, refl, sym, ap}
use mathlib.Core.Bool.{Bool, true, false, ◌&&◌, ◌||◌}
use mathlib.Core.List.{List, [], ◌∷◌, ◌++◌}
use native.Mathlib.Omega.{arith}
use native.Mathlib.Numerals.{add-one, sub-one}
use borrow.Author.Tests.{eq-eqb, ne_eqb, ltb-true}
use lib.Dec.{leb, ltb, eqb}
use lib.ListN.{length, get_or}
use Rattle.std.specs.Prelude.{Some, None}
use Rattle.std.specs.List.{slice_get}
use Rattle.std.proofs.lemmas.Option.{slice_get-get_or, slice_get_within, get_or_from_slice_get}
use Rattle.rules.specs.Limits.{max_files}
use Rattle.rules.specs.Model.{Task, Instance, file_count, task_count}
use Rattle.rules.specs.Text.{wrong, right, undue, or_undue}
use Rattle.rules.specs.InstanceText.{task_line, file_line, ascends, file_allowed, with_line}
use Rattle.rules.specs.declared.Board.{Board}
use Rattle.rules.proofs.Tests.{and_no}
use Rattle.rules.proofs.ReadingLaws.{and-true-4}
use Rattle.model.specs.Layout.{instance_with, stored_file}
use Rattle.model.specs.declared.layout.Numbers.{Numbers}
use Rattle.model.proofs.LayoutLaws as Lists
use Rattle.model.proofs.WriteLaws.{task-stored, file-stored}

-- a list whose last element is asked for, by the answer
pub last-none : {A : Type 0} (xs : List A) → None ≡ slice_get xs (length xs - 1) → length xs ≡ 0
last-none [] e = refl
last-none (x ∷ xs) e = let h : slice_get (x ∷ xs) (length (x ∷ xs) - 1) ≡ Some (get_or (x ∷ xs) (length (x ∷ xs) - 1) x) = slice_get-get_or (x ∷ xs) (length (x ∷ xs) - 1) x (omega arith) in cc

pub last-some : {A : Type 0} (xs : List A) (x d : A) → Some x ≡ slice_get xs (length xs - 1) → (length xs ≡ 0 → ⊥) × (x ≡ get_or xs (length xs - 1) d)
last-some xs x d e = (λ z. let h = slice_get_within xs (length xs - 1) x (sym e) in omega arith, sym (get_or_from_slice_get xs (length xs - 1) x d (sym e)))

-- some board
abbrev pub least_board : Board
least_board = record { blue = record { processors = 1; limit = 0 }; red = record { processors = 1; limit = 0 } }

-- ---- the lines behind it
module _ (b : Board) (xs : Numbers) where
  abbrev I : Instance
  I = instance_with b xs

  files-in : file_count I ≡ length xs.files.items
  files-in = Lists.file-count b xs.tasks.items xs.files.items

  tasks-in : task_count I ≡ length xs.tasks.items
  tasks-in = Lists.task-count b xs.tasks.items xs.files.items

  -- a task
  module _ (i : ℕ) (a : Task) where
    pub task-behind-file : (length xs.files.items ≡ 0 → ⊥) → wrong undue ≡ or_undue (with_line I (task_line i a))
    task-behind-file h = rw (files-in, ne_eqb _ _ h)

    pub task-misnumbered : (i ≡ length xs.tasks.items + 1 → ⊥) → wrong undue ≡ or_undue (with_line I (task_line i a))
    task-misnumbered h = rw (tasks-in, ← add-one, ne_eqb _ _ h, and_no)

  task-next : (i : ℕ) → length xs.files.items ≡ 0 → i ≡ length xs.tasks.items + 1 → eqb (file_count I) 0 && eqb i (suc (task_count I)) ≡ true
  task-next i z e = rw (files-in, tasks-in, ← add-one, eq-eqb _ _ z, eq-eqb _ _ e)

  -- a file
  pub ascends_none : (i j : ℕ) → length xs.files.items ≡ 0 → true ≡ ascends I i j
  ascends_none i j z = rw (files-in, eq-eqb _ _ z)

  pub ascends-by : (i j : ℕ) → (length xs.files.items ≡ 0 → ⊥) → (m r : ℕ) → m ≡ (stored_file xs.files.items (length xs.files.items - 1)).maker
      → r ≡ (stored_file xs.files.items (length xs.files.items - 1)).reader → ascends I i j ≡ ltb m i || eqb m i && ltb r j
  ascends-by i j h m r p q =
      rw (files-in, ne_eqb _ _ h, ← sub-one, Lists.file-at b xs.tasks.items xs.files.items (length xs.files.items - 1), p, q)

  pub allowed-by : (i j : ℕ) (x : Bool) → x ≡ ascends I (i - 1) (j - 1)
      → file_allowed I i j ≡ ltb i j && leb j (length xs.tasks.items) && x && ltb (length xs.files.items) max_files
  allowed-by i j x e = rw (e, sub-one, sub-one, files-in, tasks-in)

  pub file-refused : (i j f c : ℕ) → file_allowed I i j ≡ false → wrong undue ≡ or_undue (with_line I (file_line i j f c))
  file-refused i j f c e = rw e

  pub file-room : (i j : ℕ) → file_allowed I i j ≡ true → (i < j) × (length xs.files.items < max_files)
  file-room i j e =
      let t = and-true-4 (ltb i j) (leb j (task_count I)) (ascends I (pred i) (pred j)) (ltb (file_count I) max_files) e in
      (ltb-true _ _ t.0, omega (arith, ltb-true (file_count I) max_files t.3, files-in))

-- ---- what is taken
module _ (b : Board) (xs ys : Numbers) where
  pub task-taken : (i u v w : ℕ) → length xs.files.items ≡ 0 → i ≡ length xs.tasks.items + 1
      → ys.tasks.items ≡ xs.tasks.items ++ record { on_blue = u; on_red = v; work = w } ∷ [] → ys.files ≡ xs.files
      → right (instance_with b ys) ≡ or_undue (with_line (instance_with b xs) (task_line i (record { on_blue = u; on_red = v; work = w })))
  task-taken i u v w z e q r = rw (task-next b xs i z e, q, r) (ap right (task-stored b xs.tasks.items xs.files.items _))

  pub file-taken : (i j f c : ℕ) → file_allowed (instance_with b xs) i j ≡ true
      → ys.files.items ≡ xs.files.items ++ record { maker = i - 1; reader = j - 1; size = f; move_time = c } ∷ [] → ys.tasks ≡ xs.tasks
      → right (instance_with b ys) ≡ or_undue (with_line (instance_with b xs) (file_line i j f c))
  file-taken i j f c e q r = rw (e, q, r, sub-one i, sub-one j) (ap right (file-stored b xs.tasks.items xs.files.items _))
