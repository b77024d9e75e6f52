-- What the lists and arrays say after a write: the numbers written, and every other number as it was.
use Prim.Native.Nat.{ℕ, suc, ◌<◌}
use mathlib.Core.Path.{◌≡◌, ap₂}
use mathlib.Core.Logic.{◌≢◌}
use mathlib.Core.List.{List, [], ◌∷◌, ◌++◌}
use native.Mathlib.Omega.{arith}
use lib.ListN.{length}
use lib.Seq.{get_or-set_same, get_or-set_other}
use Rattle.std.proofs.lemmas.List.{map-append}
use Rattle.rules.specs.Count.{list_below}
use Rattle.rules.specs.InstanceText.{with_task, with_file}
use Rattle.rules.specs.declared.Board.{Board}
use Rattle.rules.proofs.CountLaws.{list-cong}
use Rattle.model.specs.declared.layout.Task.{Task as StoredTask}
use Rattle.model.specs.declared.layout.File.{File as StoredFile}
use Rattle.model.specs.declared.layout.Schedule.{Schedule as StoredSchedule}
use Rattle.model.specs.Layout.{entries_of, as_task, as_file, run_from, instance_of, with_run_at, with_move_at}

-- ---- the instance with one task, or one file, more
module _ (b : Board) (ts : List StoredTask) (fs : List StoredFile) where
  pub task-stored : (t : StoredTask) → instance_of b (ts ++ t ∷ []) fs ≡ with_task (instance_of b ts fs) (as_task t)
  unfolding instance_of
  task-stored t = rw (map-append as_task ts (t ∷ []))

  pub file-stored : (f : StoredFile) → instance_of b ts (fs ++ f ∷ []) ≡ with_file (instance_of b ts fs) (as_file f)
  unfolding instance_of
  file-stored f = rw (map-append as_file fs (f ∷ []))

-- a list by index, with one element more
list-next : {A : Type 0} (n : ℕ) (f g : ℕ → A) (a : A) → ((k : ℕ) → k < n → f k ≡ g k) → f n ≡ a → list_below (suc n) f ≡ list_below n g ++ (a ∷ [])
unfolding list_below
list-next {A} n f g a same last = ap₂ (λ (l : List A) (x : A). l ++ (x ∷ [])) (list-cong n f g same) last

-- ---- a run
module _ (xs : StoredSchedule) {i : ℕ} (long : i < length xs.runs) (p s : ℕ) where
  pub run-here : run_from (entries_of (with_run_at xs i p s)) i ≡ record { processor = p; start = s }
  run-here = rw get_or-set_same

  pub run-other : (j : ℕ) → j ≢ i → run_from (entries_of (with_run_at xs i p s)) j ≡ run_from (entries_of xs) j
  run-other j d = rw get_or-set_other

-- ---- a move start
module _ (xs : StoredSchedule) {k : ℕ} (long : k < length xs.moves) (t : ℕ) where
  pub move-here : (entries_of (with_move_at xs k t)).move_start k ≡ t
  move-here = get_or-set_same xs.moves k t 0 long

  pub move-other : (j : ℕ) → j ≢ k → (entries_of (with_move_at xs k t)).move_start j ≡ (entries_of xs).move_start j
  move-other j d = get_or-set_other xs.moves k j t 0 d

-- ---- the runs, or the move starts, with one more
module _ (xs : StoredSchedule) where
  pub runs-stored : {i : ℕ} → i < length xs.runs → (p s : ℕ)
      → list_below (suc i) (run_from (entries_of (with_run_at xs i p s))) ≡ list_below i (run_from (entries_of xs)) ++ (record { processor = p; start = s } ∷ [])
  runs-stored h p s = list-next _ _ _ _ (λ j l. run-other xs h p s j (omega arith)) (run-here xs h p s)

  pub moves-stored : {k : ℕ} → k < length xs.moves → (t : ℕ)
      → list_below (suc k) (entries_of (with_move_at xs k t)).move_start ≡ list_below k (entries_of xs).move_start ++ (t ∷ [])
  moves-stored h t = list-next _ _ _ _ (λ j l. move-other xs h t j (omega arith)) (move-here xs h t)
