-- The text of a timetable as pieces: a line for each task, a line or nothing for each file, and the claim's line.
use Prim.Native.Nat.{ℕ, suc, ◌+◌, ◌*◌, ◌≤◌, ◌<◌}
use mathlib.Core.Path.{◌≡◌, ◌∙◌}
use mathlib.Core.Bool.{true, false}
use mathlib.Core.List.{List, [], ◌++◌, append_assoc}
use native.Mathlib.Numerals.{add-one}
use native.Mathlib.Omega.{arith}
use lib.ListN.{length, length-append}
use Rattle.rules.specs.Limits.{max_tasks, max_files}
use Rattle.rules.specs.Model.{Instance, Schedule, file_at, run_at, move_at, moved}
use Rattle.rules.specs.Text.{lf}
use Rattle.rules.specs.Validity.{Claim}
use Rattle.rules.specs.ScheduleText.{run_line, move_line, claim_line, schedule_bytes, run_lines, move_lines, schedule_text}
use Rattle.rules.proofs.ScheduleTextLaws.{move_bytes, runs_none, moves-none, runs-next, moves_more, text-parts}
use Rattle.text.proofs.SinkLaws.{Pieces}
use Rattle.model.specs.declared.job.Job.{Job}
use Rattle.model.specs.Layout.{Entries}
use Rattle.model.specs.Jobs.{instance_in, schedule_by}
use Rattle.model.proofs.JobLaws.{tasks-in, files-in, run-in, move-in}
use Rattle.schedule.specs.Sizes.{longest}

-- the piece of task i, and the piece of file k
abbrev pub run_piece : Schedule → ℕ → List ℕ
run_piece P i = schedule_bytes (run_line (suc i) (run_at P i)) ++ lf

abbrev pub move_piece : Instance → Schedule → ℕ → List ℕ
move_piece I P k = move_bytes I k (moved I P k) (move_at P k)

pub run-pieces : (P : Schedule) → Pieces (run_lines P) (run_piece P)
run-pieces P =
    record { none = runs_none P; grow = λ i. runs-next P i ∙ append_assoc (run_lines P i) (schedule_bytes (run_line (suc i) (run_at P i))) lf }

pub move-pieces : (I : Instance) (P : Schedule) → Pieces (move_lines I P) (move_piece I P)
move-pieces I P = record { none = moves-none I P; grow = moves_more I P }

-- ---- from what the code reads
pub run-piece : (j : Job) (L : Entries) {i : ℕ} → i < (length j.tasks.now) → (p s : ℕ) → p ≡ L.processor i → s ≡ L.start i
    → schedule_bytes (run_line (i + 1) (record { processor = p; start = s })) ++ lf ≡ run_piece (schedule_by j L) i
run-piece j L {i} h p s u v = rw (add-one i, u, v, run-in j L i h)

module _ (I : Instance) (j : Job) (L : Entries) {k : ℕ} (h : k < (length j.files.now)) where
  pub move-piece : (m d t : ℕ) → m ≡ (file_at I k).maker → d ≡ (file_at I k).reader → t ≡ L.move_start k → moved I (schedule_by j L) k ≡ true
      → schedule_bytes (move_line (m + 1) (d + 1) t) ++ lf ≡ move_piece I (schedule_by j L) k
  move-piece m d t u v w e = rw (e, move-in j L k h, u, v, w, add-one (file_at I k).maker, add-one (file_at I k).reader)

  pub no-piece : moved I (schedule_by j L) k ≡ false → move_piece I (schedule_by j L) k ≡ []
  no-piece e = rw e

-- ---- the whole text
pub text-pieces : (j : Job) (L : Entries) (c : Claim) → let I = instance_in j in let P = schedule_by j L in
    schedule_text I P c ≡ (run_lines P (length j.tasks.now) ++ move_lines I P (length j.files.now)) ++ (schedule_bytes (claim_line c) ++ lf)
text-pieces j L c =
    let I = instance_in j in
    let P = schedule_by j L in
    text-parts I P c ∙ rw (tasks-in j, files-in j, append_assoc)

module _ (j : Job) (L : Entries) (c : Claim) where
  abbrev I : Instance
  I = instance_in j

  abbrev P : Schedule
  P = schedule_by j L

  abbrev runs_part : List ℕ
  runs_part = run_lines P (length j.tasks.now)

  abbrev moves_part : List ℕ
  moves_part = move_lines I P (length j.files.now)

  abbrev last_part : List ℕ
  last_part = schedule_bytes (claim_line c) ++ lf

  pub text-short : length runs_part ≤ longest * max_tasks → length moves_part ≤ longest * max_files → length last_part ≤ longest
      → length (schedule_text I P c) ≤ longest * (max_tasks + max_files + 1)
  text-short p q s =
      rw (text-pieces j L c)
      (omega (arith, length-append (runs_part ++ moves_part) last_part, length-append runs_part moves_part, p, q, s))
