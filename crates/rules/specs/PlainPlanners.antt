-- Order 4 in words: HEFT and MINMIN, the planners without memory.
use Rattle.std.specs.Prelude.{ℕ, ◌*◌, ◌≤◌, ◌<◌, max, ◌≡◌, ◌↔◌, ◌⊎◌, List, length, take}
use Rattle.std.proofs.Math.Option.{some}
use Rattle.rules.specs.Model.{Colour, blue, red, Instance, limit_of, task_count, Schedule}
use Rattle.rules.specs.Validity.{ClaimTrue, WithinLimits, OverLimit, accepted_with, refused_by, true_claim}
use Rattle.rules.specs.Scheduling.{plain, Planner, heft, memory_of, parent_of, complete, outcome, Partial, processor_start, input_start, earliest_start}
use Rattle.rules.specs.InstanceText.{accepted, read_instance}
use Rattle.rules.specs.Calls.{mark, plan, plan_text, Answer, overwritten}
use Rattle.rules.specs.Promises.{WellFormed, Written, AcceptedBack, Ample, First, trials_of}

-- ---- the rule

-- starts 3 and 4 are left out: the earliest start is the greater of starts 1 and 2, and every colour fits.
-- Not: start 3 or 4 still asked for; a colour that does not fit. It fixes the earliest start
abbrev pub PlainStart : Type 0
PlainStart =
    (I : Instance) (Q : Partial) (i : ℕ) (c : Colour) → earliest_start plain I Q i c ≡ some (max (processor_start I Q c) (input_start I Q.schedule i c))

-- HEFT makes two trials for each task: the first ready one of its list fits.
-- Not: every ready task tried; the trials of MINMIN. It fixes HEFT's trials
abbrev pub HeftTrials : Type 0
HeftTrials = (I : Instance) → WellFormed I → trials_of (outcome (heft plain) I) ≡ 2 * task_count I

-- ---- the answer

-- of an answer a to an accepted sheet, whatever the limits: the rule places all tasks; success, with the text written, exactly if the text fits the
-- buffer; 31, with the bytes needed, exactly if it does not
pub record PlannedPlainly (R : Planner) (I : Instance) (buffer : List ℕ) (a : Answer) : Type 0 where
  pub schedule : Schedule
  pub trials : ℕ
  pub completes : outcome R I ≡ complete schedule trials
  pub at0 : (◌≡◌ {A = Answer} a (record {
    number = 0;
    place = length (plan_text I schedule);
    trials = trials;
    buffer = overwritten (plan_text I schedule) buffer;
  })) ↔ (length (plan_text I schedule) ≤ length buffer)
  pub at31 : (◌≡◌ {A = Answer} a (record { number = 31; place = length (plan_text I schedule); trials = trials; buffer = buffer }))
      ↔ (length buffer < length (plan_text I schedule))

-- Not: stuck on each sheet; 21 where memory is short; 31 while the text fits. With SheetRefused it fixes the answer
abbrev pub PlainExact : Type 0
PlainExact =
    (R : Planner) → memory_of R ≡ plain → (sheet buffer : List ℕ) (I : Instance) → read_instance sheet ≡ accepted I →
    PlannedPlainly R I buffer (plan R sheet buffer)

-- a plain planner is never stuck. Alone it is met by a planner that refuses everything by another number; PlainExact rules that out
abbrev pub NeverStuck : Type 0
NeverStuck = (R : Planner) → memory_of R ≡ plain → (sheet buffer : List ℕ) → (plan R sheet buffer).number ≡ 21 → ⊥

-- ---- what was written, read back

-- the rule's timetable is what was written, and its claim is true. Read back it is accepted exactly if it keeps the limits, which its claim tells, and
-- refused by 17 at t exactly if t is the first instant over one; nothing else is answered
pub record MarkedBack (R : Planner) (sheet buffer : List ℕ) (a : Answer) : Type 0 where
  pub job : Instance
  pub sheet_accepted : read_instance sheet ≡ accepted job
  pub written : Written R job buffer a
  pub claim_true : ClaimTrue job written.rule.schedule (true_claim job written.rule.schedule)
  pub told : WithinLimits job written.rule.schedule
      ↔ (((true_claim job written.rule.schedule).blue_peak ≤ limit_of job blue) × ((true_claim job written.rule.schedule).red_peak ≤ limit_of job red))
  pub at0 : (mark sheet (take a.place a.buffer) ≡ accepted_with (true_claim job written.rule.schedule)) ↔ WithinLimits job written.rule.schedule
  pub at17 : (t : ℕ) → (mark sheet (take a.place a.buffer) ≡ refused_by 17 t) ↔ First (OverLimit job written.rule.schedule) t
  pub only : (mark sheet (take a.place a.buffer) ≡ accepted_with (true_claim job written.rule.schedule))
      ⊎ ((t : ℕ) × (mark sheet (take a.place a.buffer) ≡ refused_by 17 t))

-- of any planner, the plain ones too; that a memory-aware one always keeps the limits is ReadBack.
-- Not: a claim made of the limits; a plan that keeps the limits refused; one over a limit accepted; 17 at a later instant; a move before its file is made.
-- Alone it is met by a planner that never succeeds; PlannerExact rules that out
abbrev pub PlanMarked : Type 0
PlanMarked = (R : Planner) (sheet buffer : List ℕ) → (plan R sheet buffer).number ≡ 0 → MarkedBack R sheet buffer (plan R sheet buffer)

-- ---- ample memory

-- where memory is ample a planner's answer is its plain parent's: number, place, trials and every byte.
-- Not: a start 3 or 4 that delays a task while all files and all W fit; the parent of MemMinMin taken for HEFT. Alone it is met by planners that refuse everything;
-- PlannerExact rules that out
abbrev pub PlainParent : Type 0
PlainParent =
    (R : Planner) (sheet buffer : List ℕ) (I : Instance) → read_instance sheet ≡ accepted I → Ample I → plan R sheet buffer ≡ plan (parent_of R) sheet buffer

-- and what a planner wrote there, a plain one too, is accepted when read back; it follows from PlainParent and ReadBack. Not: 17 while all files and all W fit.
-- Alone it is met by a planner that never succeeds; AmpleMemory rules that out
abbrev pub AmpleReadBack : Type 0
AmpleReadBack =
    (R : Planner) (sheet buffer : List ℕ) (I : Instance) → read_instance sheet ≡ accepted I → Ample I → (plan R sheet buffer).number ≡ 0 →
    AcceptedBack R sheet buffer (plan R sheet buffer)
