-- A due line: it is taken, and what follows is read on, or it is refused.
use Prim.Native.Nat.{ℕ, suc, ◌-◌, ◌<◌}
use mathlib.Core.Path.{◌≡◌, refl, ap, ◌∙◌}
use mathlib.Core.Bool.{true, false}
use mathlib.Core.List.{List, [], ◌∷◌}
use mathlib.Core.Option.{Option}
use native.Mathlib.Omega.{arith}
use Rattle.rules.specs.Model.{Instance, task_count, file_count, file_at, Run, Schedule, moved}
use Rattle.rules.specs.Validity.{Claim}
use Rattle.rules.specs.Text.{Fault, malformed, Line, lines_of, Reading, wrong, right, due, fault_of}
use Rattle.rules.specs.ScheduleText.{ScheduleLine, schedule_line, run_of, move_of, claim_of, ScheduleRead, refused}
use Rattle.rules.specs.ScheduleText.{read_end_by, read_end, read_claim_by, read_claim, read_moves_by, read_moves, read_runs_by, read_runs}
use Rattle.rules.specs.ScheduleText.{with_run, with_move}
use Rattle.text.specs.Due.{first_says, Took}

-- what was read is refused, or `rest` goes on with it
abbrev after : {A : Type 0} → ℕ → (A → List Line → ScheduleRead) → List Line → Reading A → ScheduleRead
after k rest ls y = elim y [ wrong w ↦ refused w k | right a ↦ rest a ls ]

-- a due line
abbrev on_due : {A : Type 0} → Instance → (ScheduleLine → Option A) → ℕ → (A → List Line → ScheduleRead) → List Line → ScheduleRead
on_due I f k rest [] = refused malformed k
on_due I f k rest (l ∷ ls) = after k rest ls (due f (schedule_line I l))

module _ {A : Type 0} (I : Instance) (f : ScheduleLine → Option A) (k : ℕ) (rest : A → List Line → ScheduleRead) where
  due-wrong : (ls : List Line) (w : Fault) → due f (first_says (schedule_line I) ls) ≡ wrong w → on_due I f k rest ls ≡ refused w k
  due-wrong [] w e = let z : malformed ≡ w = cc in ap (λ (v : Fault). refused v k) z
  due-wrong (l ∷ ls) w e = ap (after k rest ls) e

  due-right : {text behind : List ℕ} {a : A} → Took (schedule_line I) f text behind a → on_due I f k rest (lines_of text) ≡ rest a (lines_of behind)
  due-right {text} {behind} t = ap (on_due I f k rest) t.lines ∙ ap (after k rest (lines_of behind)) t.due

-- ---- the three due lines

-- the move of file f
abbrev pub file_due : Instance → ℕ → ScheduleLine → Option ℕ
file_due I f = move_of (suc (file_at I f).maker) (suc (file_at I f).reader)

module _ (I : Instance) (P : Schedule) (k : ℕ) where
  abbrev run_rest : ℕ → Run → List Line → ScheduleRead
  run_rest left r ls = read_runs I left (with_run P r) (suc k) ls

  runs-due : (left : ℕ) (ls : List Line) → read_runs I (suc left) P k ls ≡ on_due I (run_of (suc (task_count I - suc left))) k (run_rest left) ls
  unfolding read_runs_by
  runs-due left [] = refl
  runs-due left (l ∷ ls) = refl

  abbrev move_rest : ℕ → ℕ → List Line → ScheduleRead
  move_rest left t ls = read_moves I left (with_move P t) (suc k) ls

  moves-due : (left : ℕ) → moved I P (file_count I - suc left) ≡ true → (ls : List Line)
      → read_moves I (suc left) P k ls ≡ on_due I (file_due I (file_count I - suc left)) k (move_rest left) ls
  unfolding read_moves_by
  moves-due left m [] = rw (m, read_moves_by)
  moves-due left m (l ∷ ls) = rw (m, read_moves_by)

  moves-pass : (left : ℕ) → moved I P (file_count I - suc left) ≡ false → (ls : List Line) → read_moves I (suc left) P k ls ≡ read_moves I left (with_move P 0) k ls
  unfolding read_moves_by
  moves-pass left m ls = rw (m, read_moves_by)

  abbrev claim_rest : Claim → List Line → ScheduleRead
  claim_rest c ls = read_end I P c (suc k) ls

  claim-due : (ls : List Line) → read_claim I P k ls ≡ on_due I claim_of k claim_rest ls
  unfolding read_claim_by
  claim-due [] = refl
  claim-due (l ∷ ls) = refl

pub end-refused : (I : Instance) (P : Schedule) (c : Claim) (k : ℕ) (ls : List Line) (w : Fault) → (ls ≡ [] → ⊥) → fault_of (first_says (schedule_line I) ls) ≡ w
    → read_end I P c k ls ≡ refused w k
unfolding read_end_by
end-refused I P c k [] w h e = absurd (h refl)
end-refused I P c k (l ∷ ls) w h e = ap (λ (v : Fault). refused v k) e

-- ---- as the code counts: task i, file f
module _ (I : Instance) (P : Schedule) (k : ℕ) where
  module _ (i : ℕ) (h : i < task_count I) where
    run-at : (ls : List Line) → read_runs I (task_count I - i) P k ls ≡ on_due I (run_of (suc i)) k (run_rest I P k (task_count I - suc i)) ls
    run-at ls =
        let n : task_count I - i ≡ suc (task_count I - suc i) = omega arith in
        let m : task_count I - suc (task_count I - suc i) ≡ i = omega arith in
        rw n (runs-due I P k (task_count I - suc i) ls ∙ rw m)

    pub run-refused : (ls : List Line) (w : Fault) → due (run_of (suc i)) (first_says (schedule_line I) ls) ≡ wrong w
        → read_runs I (task_count I - i) P k ls ≡ refused w k
    run-refused ls w e = run-at ls ∙ due-wrong I (run_of (suc i)) k (run_rest I P k (task_count I - suc i)) ls w e

    pub run-taken : {text behind : List ℕ} {r : Run} → Took (schedule_line I) (run_of (suc i)) text behind r
        → read_runs I (task_count I - i) P k (lines_of text) ≡ read_runs I (task_count I - suc i) (with_run P r) (suc k) (lines_of behind)
    run-taken t = run-at _ ∙ due-right I (run_of (suc i)) k (run_rest I P k (task_count I - suc i)) t

  module _ (f : ℕ) (h : f < file_count I) where
    module _ (m : moved I P f ≡ true) where
      move-at : (ls : List Line) → read_moves I (file_count I - f) P k ls ≡ on_due I (file_due I f) k (move_rest I P k (file_count I - suc f)) ls
      move-at ls =
          let n : file_count I - f ≡ suc (file_count I - suc f) = omega arith in
          let q : file_count I - suc (file_count I - suc f) ≡ f = omega arith in
          rw n (moves-due I P k (file_count I - suc f) (rw q m) ls ∙ rw q)

      pub move-refused : (ls : List Line) (w : Fault) → due (file_due I f) (first_says (schedule_line I) ls) ≡ wrong w
          → read_moves I (file_count I - f) P k ls ≡ refused w k
      move-refused ls w e = move-at ls ∙ due-wrong I (file_due I f) k (move_rest I P k (file_count I - suc f)) ls w e

      pub move_taken : {text behind : List ℕ} {t : ℕ} → Took (schedule_line I) (file_due I f) text behind t
          → read_moves I (file_count I - f) P k (lines_of text) ≡ read_moves I (file_count I - suc f) (with_move P t) (suc k) (lines_of behind)
      move_taken t = move-at _ ∙ due-right I (file_due I f) k (move_rest I P k (file_count I - suc f)) t

    pub move-passed : moved I P f ≡ false → (ls : List Line)
        → read_moves I (file_count I - f) P k ls ≡ read_moves I (file_count I - suc f) (with_move P 0) k ls
    move-passed m ls =
        let n : file_count I - f ≡ suc (file_count I - suc f) = omega arith in
        let q : file_count I - suc (file_count I - suc f) ≡ f = omega arith in
        rw n (moves-pass I P k (file_count I - suc f) (rw q m) ls)

  pub claim-refused : (ls : List Line) (w : Fault) → due claim_of (first_says (schedule_line I) ls) ≡ wrong w → read_claim I P k ls ≡ refused w k
  claim-refused ls w e = claim-due I P k ls ∙ due-wrong I claim_of k (claim_rest I P k) ls w e

  pub claim-taken : {text behind : List ℕ} {c : Claim} → Took (schedule_line I) claim_of text behind c
      → read_claim I P k (lines_of text) ≡ read_end I P c (suc k) (lines_of behind)
  claim-taken t = claim-due I P k _ ∙ due-right I claim_of k (claim_rest I P k) t
