-- The demands as clauses of the public contracts: what rules' promises say of the answer at hand.
use Rattle.std.specs.Prelude.{ℕ, ◌+◌, ◌*◌, ◌≤◌, ◌≡◌, ◌↔◌, List, length}
use Rattle.rules.specs.Limits.{max_text, former, before_work}
use Rattle.rules.specs.Model.{Instance, task_count}
use Rattle.rules.specs.Validity.{Verdict, refused_by}
use Rattle.rules.specs.Scheduling.{Planner, parent_of, outcome}
use Rattle.rules.specs.Text.{Fault, in_sheet, in_timetable, fault_number}
use Rattle.rules.specs.InstanceText.{accepted, read_instance}
use Rattle.rules.specs.Calls.{Answer, mark_by, plan_text, plan}
use Rattle.rules.specs.Promises.{MarkedOrRefused, MarkedExactly, WrittenOrRefused, Written, PlannedExactly, AcceptedBack, Completes, Ample, trials_of}
use Rattle.rules.specs.CallsExact.{Marking, Planned}
use Rattle.rules.specs.PlainPlanners.{PlannedPlainly, MarkedBack}
use Rattle.rules.specs.FinerTicks.{RefusedForWidth, KeptMark, KeptPlan, KeptSimulation, InRange}
use Rattle.rules.specs.WorkingMemory.{RefusedForWork, MarkBeforeWork, PlanBeforeWork, SimulationBeforeWork}
use Rattle.rules.specs.SheetFaults.{SheetFault}
use Rattle.rules.specs.ScheduleFaults.{ScheduleFault}
use Rattle.rules.specs.Simulation.{Simulation, refused_by as refused_text}
use Rattle.rules.specs.SimulationPromises.{Simulated}
use Rattle.rules.specs.SimulationExact.{Told}

-- what the marker's answer v to a board sheet and a timetable's text promises
pub record MarkerDemands (sheet paper : List ℕ) (v : Verdict) : Type 0 where
  -- acceptance, or one refusal listed for the marker, with span and peaks 0. Not: a number of its own
  pub ends : MarkedOrRefused v
  -- each ending with when it comes and the whole answer. Not: one refusal for all that is not accepted; 18 before 17
  pub call : Marking sheet paper v
  -- for an accepted sheet, accepted exactly if the paper is the due lines of a valid timetable. Not: all accepted; none accepted
  pub exactly : MarkedExactly sheet paper v
  -- 1 to 4 at k exactly if the sheet has that fault first, at line k. Not: 2 for 3; the last bad line
  pub sheet_fault : (w : Fault) (k : ℕ) → (v ≡ refused_by (fault_number in_sheet w) k) ↔ SheetFault sheet w k
  -- for an accepted sheet, 11 to 14 at k exactly if the paper has that fault first, at line k. Not: 14 at line 1 for every paper refused
  pub paper_fault : (I : Instance) → read_instance sheet ≡ accepted I → (w : Fault) (k : ℕ)
      → (v ≡ refused_by (fault_number in_timetable w) k) ↔ ScheduleFault I paper w k
  -- Order 5: the mark that the former widths give, or that one refuses a line for a number too long or too large. Not: an old acceptance lost
  pub kept : KeptMark sheet paper v
  -- and such a refusal is not given now. Not: ten digits refused as they were
  pub changed : RefusedForWidth sheet paper (mark_by former sheet paper) → v ≡ mark_by former sheet paper → ⊥
  -- Order 6: the mark that a reader gives who does not know the form with W, or that one refuses a line for it. Not: an old line read otherwise
  pub form_kept : MarkBeforeWork sheet paper v
  -- and such a refusal is not given now. Not: a line with W refused by 2
  pub form_changed : RefusedForWork sheet (mark_by before_work sheet paper) → v ≡ mark_by before_work sheet paper → ⊥

-- what every planner's answer a promises, with the bytes that the lent buffer then holds
pub record PlannerDemands (R : Planner) (sheet buffer : List ℕ) (a : Answer) : Type 0 where
  -- success, or one refusal that is listed for a planner, with the buffer as it was. Not: the first lines written before 31
  pub ends : WrittenOrRefused buffer a
  -- each ending with when it comes and the whole answer. Not: no trials after 21 or 31
  pub call : Planned R sheet buffer a
  -- for an accepted sheet: success, 21 and 31 exactly where the rule says so, with what was written and where. Not: every sheet refused
  pub exactly : (I : Instance) → read_instance sheet ≡ accepted I → PlannedExactly R I buffer a
  -- 1 to 4 at k exactly if the sheet has that fault first, at line k. Not: one fixed number for every sheet refused
  pub sheet_fault : (w : Fault) (k : ℕ) → ((a.number ≡ fault_number in_sheet w) × (a.place ≡ k)) ↔ SheetFault sheet w k
  -- a buffer as long as a text may be is never too short. Not: 31 whatever the buffer
  pub roomy : max_text ≤ length buffer → a.number ≡ 31 → ⊥
  -- what was written carries a true claim; read back it is accepted exactly if it keeps the limits, which the claim tells, and refused by 17 exactly at
  -- the first instant over one, by nothing else. Not: one line only; a claim made of the limits. Alone it is met by a planner that never succeeds
  pub marked : a.number ≡ 0 → MarkedBack R sheet buffer a
  -- where memory is ample and the buffer as long as the timetable it succeeds. Not: stuck on each sheet
  pub ample : (I : Instance) → read_instance sheet ≡ accepted I → Ample I
      → (C : Completes R sheet I) × (length (plan_text I C.schedule) ≤ length buffer → a.number ≡ 0)
  -- for an accepted sheet the trials are those of the rule, also after 21 and 31, and at most n × (n + 1). Not: a made-up count
  pub trials : (I : Instance) → read_instance sheet ≡ accepted I → (a.trials ≡ trials_of (outcome R I)) × (a.trials ≤ task_count I * (task_count I + 1))
  -- Order 5: every number of what was written is in its range. Not: a start that the marker cannot read. Alone it is met by a planner that never succeeds
  pub in_range : (I : Instance) → read_instance sheet ≡ accepted I → a.number ≡ 0 → (w : Written R I buffer a) × InRange I w.rule.schedule
  -- the answer that the former widths give, or that one refuses the sheet for a number too long or too large. Not: another plan for an old sheet
  pub kept : KeptPlan R sheet buffer a
  -- Order 6: the answer by a reader that does not know the form with W, or that one refuses a line for it. Not: another plan for a sheet without W
  pub form_kept : PlanBeforeWork R sheet buffer a

-- what the answer of a memory-aware planner promises besides
pub record AwareDemands (R : Planner) (sheet buffer : List ℕ) (a : Answer) : Type 0 where
  -- what was written is accepted when read back, with the span and peaks it claims. Not: a plan over a limit. Alone it is met by a planner that never
  -- succeeds
  pub read_back : a.number ≡ 0 → AcceptedBack R sheet buffer a
  -- where memory is ample the whole answer, trials and every byte too, is that of its plain parent. Not: a task that waits for memory
  -- while all files and all W fit
  pub parent : (I : Instance) → read_instance sheet ≡ accepted I → Ample I → a ≡ plan (parent_of R) sheet buffer

-- what the answer of a plain planner promises besides
pub record PlainDemands (R : Planner) (sheet buffer : List ℕ) (a : Answer) : Type 0 where
  -- never stuck. Not: 21 where memory is short
  pub never_stuck : a.number ≡ 21 → ⊥
  -- for an accepted sheet, whatever the limits: success with the text written exactly if it fits the buffer, else 31 with the bytes needed. Not: every
  -- sheet refused
  pub plainly : (I : Instance) → read_instance sheet ≡ accepted I → PlannedPlainly R I buffer a
  -- where memory is ample what was written is accepted when read back. Not: 17 while all files and all W fit
  pub ample_back : (I : Instance) → read_instance sheet ≡ accepted I → Ample I → a.number ≡ 0 → AcceptedBack R sheet buffer a

-- HEFT's trials: two for each task of an accepted sheet, also after 31. Not: every ready task tried
abbrev pub TwoTrialsATask : List ℕ → Answer → Type 0
TwoTrialsATask sheet a = (I : Instance) → read_instance sheet ≡ accepted I → a.trials ≡ 2 * task_count I

-- what the simulator's answer a promises, for so many steps made and to make
pub record SimulatorDemands (sheet paper : List ℕ) (made steps : ℕ) (a : Simulation) : Type 0 where
  -- a text refused by 1 to 4 or 11 to 14 with the state before the first, stopped by 15, 16 or 17, steps left, or ended. Not: a number of its own
  pub ends : Told a
  -- for texts that are read, the state after the steps made, and each ending exactly where it comes; given steps enough, stopped exactly where the
  -- marker refuses by 15 to 17. Not: always steps left; the state of the faulty tick; the marker's first fault for the first faulty tick
  pub call : Simulated sheet paper made steps a
  -- 1 to 4 at k exactly if the sheet has that fault first, at line k. Not: one number for every sheet refused
  pub sheet_fault : (w : Fault) (k : ℕ) → (a.progress ≡ refused_text (fault_number in_sheet w) k) ↔ SheetFault sheet w k
  -- for an accepted sheet, 11 to 14 at k exactly if the paper has that fault first, at line k. Not: a paper with no claim walked through
  pub paper_fault : (I : Instance) → read_instance sheet ≡ accepted I → (w : Fault) (k : ℕ)
      → (a.progress ≡ refused_text (fault_number in_timetable w) k) ↔ ScheduleFault I paper w k
  -- Order 5: the answer that the former widths give, or the marker by them refuses a line for a number too long or too large. Not: another state for an
  -- old timetable
  pub kept : KeptSimulation sheet paper made steps a
  -- Order 6: the answer by a reader that does not know the form with W, or the marker by it refuses a line for it. Not: another state for a sheet without W
  pub form_kept : SimulationBeforeWork sheet paper made steps a
