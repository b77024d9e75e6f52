-- Where the reader stands, step by step: what is left to be read is the whole answer.
use Rattle.model.specs.Layout.{schedule_from}
use Prim.Native.Nat.{ℕ, suc, ◌+◌, ◌-◌, ◌≤◌, ◌<◌}
use mathlib.Core.Path.{◌≡◌, refl, sym, ap, ap₂, ◌∙◌}
use mathlib.Core.Bool.{true, false}
use mathlib.Core.List.{List, []}
use native.Mathlib.Nat.{sub-zero}
use native.Mathlib.Omega.{arith}
use native.Mathlib.Numerals.{add-one}
use lib.ListN.{length, drop_of_length-le}
use Rattle.rules.specs.Count.{list_below}
use Rattle.rules.specs.Limits.{max_tasks}
use Rattle.rules.specs.Model.{Instance, Schedule, task_count, file_count, file_at, moved}
use Rattle.rules.specs.Text.{Fault, lines_of, wrong, due, fault_of}
use Rattle.rules.specs.Validity.{Claim}
use Rattle.rules.specs.ScheduleText.{schedule_line, run_of, move_of, claim_of, ScheduleRead, refused, read}
use Rattle.rules.specs.ScheduleText.{read_end_by, read_end, read_claim, read_moves_by, read_moves, read_runs_by, read_runs}
use Rattle.rules.proofs.LineLaws.{no_lines}
use Rattle.std.specs.Prelude.{Result, Ok, Err, unwrap_or}
use Rattle.std.specs.Result.{result_err}
use Rattle.rules.specs.Refusals.{as_fault}
use Rattle.rules.specs.declared.refusal.Fault.{Fault as CodeFault}
use Rattle.rules.specs.declared.refusal.Fault.TheVariants.{Undue}
use Rattle.text.specs.declared.lines.Taken.{Taken}
use Rattle.text.specs.Due.{first_says, Took}
use Rattle.text.proofs.DueLaws.{said_as, unread-as}
use Rattle.schedule.specs.declared.lines.Line.{Line}
use Rattle.schedule.specs.Lines.{NextLine}
use Rattle.text.proofs.FirstLineLaws.{no_line}
use Rattle.model.specs.declared.layout.Run.{Run}
use Rattle.model.specs.declared.layout.Schedule.{Schedule as StoredSchedule}
use Rattle.model.specs.declared.job.Job.{Job}
use Rattle.model.specs.Layout.{Entries, entries_of, JobBounds, WholeSchedule, with_run_at, with_move_at}
use Rattle.model.specs.Jobs.{instance_in, schedule_by}
use Rattle.model.proofs.JobLaws.{tasks-in, files-in}
use Rattle.schedule.specs.Reading.{as_run, nothing, runs_of}
use Rattle.schedule.proofs.DueLaws.{run-refused, run-taken, file_due, move-refused, move_taken, move-passed, claim-taken, end-refused}
use Rattle.schedule.proofs.StoreLaws.{moves_of, run-stored, move-stored}

-- ---- the claim
end_read : (I : Instance) (P : Schedule) (c : Claim) (k : ℕ) → read_end I P c k [] ≡ read P c
unfolding read_end_by
end_read I P c k = refl

module _ (I : Instance) {bs rest : List ℕ} {c : Claim} (P : Schedule) (k : ℕ) (t : Took (schedule_line I) claim_of bs rest c) where
  pub claim-last : length rest ≤ 0 → read_claim I P k (lines_of bs) ≡ read P c
  claim-last h = claim-taken I P k t ∙ rw (drop_of_length-le rest {i = 0} h, no_line) (end_read I P c (suc k))

  pub claim-more : 0 < length rest → (w : Fault) → fault_of (first_says (schedule_line I) (lines_of rest)) ≡ w → read_claim I P k (lines_of bs) ≡ refused w (k + 1)
  claim-more h w e =
      rw (add-one k) (claim-taken I P k t ∙ end-refused I P c (suc k) (lines_of rest) w (λ z. omega (arith, ap length (no_lines rest z))) e)

-- the fault of a line where none is due: its own, or it is undue
pub extra-fault : (I : Instance) (bs : List ℕ) (r : Result (Taken Line) CodeFault) → NextLine I bs r
    → fault_of (first_says (schedule_line I) (lines_of bs)) ≡ as_fault (unwrap_or (result_err r) Undue)
extra-fault I bs (Ok t) h = rw (h.lines, said_as (schedule_line I h.line) _ h.due)
extra-fault I bs (Err w) h = ap fault_of (unread-as (first_says (schedule_line I) (lines_of bs)) (as_fault w) h)

-- ---- the runs of the first i tasks are read
pub record RunsRead (j : Job) (bs : List ℕ) (schedule : StoredSchedule) (rest : List ℕ) (i : ℕ) : Type 0 where
  pub left : let I = instance_in j in
      read_runs I (task_count I) nothing 1 (lines_of bs) ≡ read_runs I (task_count I - i) (runs_of i (entries_of schedule)) (suc i) (lines_of rest)

pub runs-start : (j : Job) (bs : List ℕ) (schedule : StoredSchedule) → RunsRead j bs schedule bs 0
unfolding list_below
runs-start j bs schedule = record { left = rw sub-zero }

runs_done : (I : Instance) (P : Schedule) (k : ℕ) (ls : _) → read_runs I 0 P k ls ≡ read_moves I (file_count I) P k ls
unfolding read_runs_by
runs_done I P k ls = refl

module _ {j : Job} {bs : List ℕ} {schedule : StoredSchedule} {rest : List ℕ} {i : ℕ} (q : RunsRead j bs schedule rest i) where
  abbrev I : Instance
  I = instance_in j

  pub runs-end : (length j.tasks.now) ≤ i → i ≤ (length j.tasks.now)
      → read_runs I (task_count I) nothing 1 (lines_of bs) ≡ read_moves I (file_count I) (runs_of (length j.tasks.now) (entries_of schedule)) ((length j.tasks.now) + 1) (lines_of rest)
  runs-end h g =
      let z : task_count I - i ≡ 0 = omega (arith, tasks-in j) in
      let e : i ≡ (length j.tasks.now) = omega arith in
      let ls = lines_of rest in
      q.left ∙ ap (λ (n : ℕ). read_runs I n (runs_of i (entries_of schedule)) (suc i) ls) z ∙ runs_done I (runs_of i (entries_of schedule)) (suc i) ls
      ∙ ap₂ (λ (n k : ℕ). read_moves I (file_count I) (runs_of n (entries_of schedule)) k ls) e (sym (add-one i) ∙ ap (λ (n : ℕ). n + 1) e)

  module _ (h : i < (length j.tasks.now)) where
    in-tasks : i < task_count I
    in-tasks = omega (arith, tasks-in j)

    pub runs-refused : (w : Fault) → due (run_of (i + 1)) (first_says (schedule_line I) (lines_of rest)) ≡ wrong w
        → read_runs I (task_count I) nothing 1 (lines_of bs) ≡ refused w (i + 1)
    runs-refused w e = q.left ∙ rw (add-one i) (run-refused I (runs_of i (entries_of schedule)) (suc i) i in-tasks (lines_of rest) w (rw (add-one i) at e))

    pub runs-next : (length j.tasks.now) ≤ max_tasks → WholeSchedule schedule → {behind : List ℕ} (r : Run)
        → Took (schedule_line I) (run_of (i + 1)) rest behind (as_run r) → (new : StoredSchedule) → new ≡ with_run_at schedule i r.processor r.start
        → RunsRead j bs new behind (i + 1)
    runs-next few long {behind} r t new stored =
        rw (add-one i, stored)
        (record {
          left =
              q.left ∙ run-taken I (runs_of i (entries_of schedule)) (suc i) i in-tasks (rw (add-one i) at t)
              ∙ ap (λ P. read_runs I (task_count I - suc i) P (suc (suc i)) (lines_of behind))
              (sym (run-stored schedule long (omega arith) r.processor r.start));
        })

-- ---- the moves of the first i files are read; the first of their lines has the number `line`
pub record MovesRead (j : Job) (bs : List ℕ) (old schedule : StoredSchedule) (line : ℕ) (rest : List ℕ) (k i : ℕ) : Type 0 where
  pub few : k ≤ line + i
  pub left : let I = instance_in j in
      read_moves I (file_count I) (runs_of (length j.tasks.now) (entries_of old)) line (lines_of bs)
      ≡ read_moves I (file_count I - i) (moves_of (length j.tasks.now) i (entries_of schedule)) k (lines_of rest)

pub moves-start : (j : Job) (bs : List ℕ) (schedule : StoredSchedule) (line : ℕ) → MovesRead j bs schedule schedule line bs line 0
unfolding list_below
moves-start j bs schedule line = record { few = omega arith; left = rw sub-zero }

moves-done : (I : Instance) (P : Schedule) (k : ℕ) (ls : _) → read_moves I 0 P k ls ≡ read_claim I P k ls
unfolding read_moves_by
moves-done I P k ls = refl

all-moves : (j : Job) (L : Entries) → moves_of (length j.tasks.now) (length j.files.now) L ≡ schedule_by j L
unfolding schedule_from
all-moves j L = refl

module _ {j : Job} {bs : List ℕ} {old schedule : StoredSchedule} {line : ℕ} {rest : List ℕ} {k i : ℕ}
    (q : MovesRead j bs old schedule line rest k i) where
  abbrev JI : Instance
  JI = instance_in j

  abbrev whole : ScheduleRead
  whole = read_moves JI (file_count JI) (runs_of (length j.tasks.now) (entries_of old)) line (lines_of bs)

  abbrev so_far : Schedule
  so_far = moves_of (length j.tasks.now) i (entries_of schedule)

  pub moves-end : (length j.files.now) ≤ i → i ≤ (length j.files.now) → whole ≡ read_claim JI (schedule_by j (entries_of schedule)) k (lines_of rest)
  moves-end h g =
      let L = entries_of schedule in
      let ls = lines_of rest in
      let z : file_count JI - i ≡ 0 = omega (arith, files-in j) in
      let e : i ≡ (length j.files.now) = omega arith in
      q.left ∙ ap (λ (n : ℕ). read_moves JI n so_far k ls) z ∙ moves-done JI so_far k ls
      ∙ ap (λ (n : ℕ). read_claim JI (moves_of (length j.tasks.now) n L) k ls) e ∙ ap (λ P. read_claim JI P k ls) (all-moves j L)

  module _ (h : i < (length j.files.now)) where
    in-files : i < file_count JI
    in-files = omega (arith, files-in j)

    module _ (m : moved JI so_far i ≡ true) {maker reader : ℕ} (u : maker ≡ (file_at JI i).maker) (v : reader ≡ (file_at JI i).reader) where
      -- the move that is due, as the code has it
      file-due : move_of (maker + 1) (reader + 1) ≡ file_due JI i
      file-due = rw (u, v, add-one, add-one)

      pub moves-refused : (w : Fault) → due (move_of (maker + 1) (reader + 1)) (first_says (schedule_line JI) (lines_of rest)) ≡ wrong w → whole ≡ refused w k
      moves-refused w e = q.left ∙ move-refused JI so_far k i in-files m (lines_of rest) w (rw file-due at e)

      pub moves_next : JobBounds j.board j.tasks.now j.files.now → WholeSchedule schedule → {behind : List ℕ} (t : ℕ)
          → Took (schedule_line JI) (move_of (maker + 1) (reader + 1)) rest behind t → (new : StoredSchedule) → new ≡ with_move_at schedule i t
          → MovesRead j bs old new line behind (k + 1) (i + 1)
      moves_next bounds long {behind} t o new stored =
          rw (add-one i, add-one k, stored)
          (record {
            few = omega (arith, q.few);
            left =
                q.left ∙ move_taken JI so_far k i in-files m (rw file-due at o)
                ∙ ap (λ P. read_moves JI (file_count JI - suc i) P (suc k) (lines_of behind))
                (sym (move-stored schedule long (omega (arith, bounds.files)) t (length j.tasks.now) bounds.tasks));
          })

    pub moves-skip : moved JI so_far i ≡ false → JobBounds j.board j.tasks.now j.files.now → WholeSchedule schedule → (new : StoredSchedule) → new ≡ with_move_at schedule i 0
        → MovesRead j bs old new line rest k (i + 1)
    moves-skip m bounds long new stored =
        rw (add-one i, stored)
        (record {
          few = omega (arith, q.few);
          left =
              q.left ∙ move-passed JI so_far k i in-files m (lines_of rest)
              ∙ ap (λ P. read_moves JI (file_count JI - suc i) P k (lines_of rest))
              (sym (move-stored schedule long (omega (arith, bounds.files)) 0 (length j.tasks.now) bounds.tasks));
        })
