-- An answer that equals its definition keeps the demands.
use Prim.Native.Nat.{ℕ, ◌≤◌}
use mathlib.Core.Path.{◌≡◌, ap, ◌∙◌}
use mathlib.Core.List.{List}
use native.Mathlib.Omega.{arith}
use lib.ListN.{length}
use Rattle.rules.specs.Limits.{max_text}
use Rattle.rules.specs.Model.{Instance}
use Rattle.rules.specs.Validity.{Verdict}
use Rattle.rules.specs.Scheduling.{aware, plain, Planner, heft, memory_of}
use Rattle.rules.specs.Text.{in_sheet, in_timetable, fault_number}
use Rattle.rules.specs.InstanceText.{accepted, read_instance}
use Rattle.rules.specs.Calls.{Answer, mark, plan}
use Rattle.rules.specs.Promises.{Written}
use Rattle.rules.specs.FinerTicks.{InRange}
use Rattle.rules.specs.CallsExact.{Planned, by_text, by21, by31, by0}
use Rattle.rules.proofs.SheetLaws.{sheet_exact}
use Rattle.rules.proofs.SheetFaultLaws.{sheet_faults}
use Rattle.rules.proofs.ScheduleFaultLaws.{schedule_faults}
use Rattle.rules.proofs.MarkerLaws.{marker_ends, marker_exact, mark-sheet, mark-timetable}
use Rattle.rules.proofs.PlannerLaws.{planner_ends, planner_exact, plans_short, plans_in_range, read_back, ample_memory, plan-refused, plan-trials}
use Rattle.rules.proofs.CallsExactLaws.{mark_call, plan_call}
use Rattle.rules.proofs.KeptLaws.{kept_marks, kept_plans, kept_simulations}
use Rattle.rules.proofs.ChangedLaws.{changed_marks}
use Rattle.rules.proofs.BeforeWorkLaws.{marks_before_work, changed_for_work, plans_before_work, simulations_before_work}
use Rattle.rules.proofs.PlainPlannerLaws.{heft_trials, plain_exact, never_stuck, plan_marked, plain_parent, ample_read_back}
use Rattle.rules.specs.Simulation.{Simulation, simulate}
use Rattle.rules.proofs.SimulatorLaws.{simulator_law, simulate-sheet, simulate-timetable}
use Rattle.rules.proofs.SimulationExactLaws.{text_exact, numbers_tell}
use Rattle.rules.proofs.TrialLaws.{trial_bound}
use Rattle.frames.specs.Demands.{MarkerDemands, PlannerDemands, AwareDemands, PlainDemands, TwoTrialsATask, SimulatorDemands}
use Rattle.rules.proofs.FaultLaws.{marked-by-sheet, marked-by-paper, planned-by-sheet, sheet-numbers}

-- ---- the marker
mark-demands : (sheet paper : List ℕ) → MarkerDemands sheet paper (mark sheet paper)
mark-demands sheet paper = record {
  ends = marker_ends sheet paper;
  call = mark_call sheet paper;
  exactly = marker_exact sheet paper;
  sheet_fault = λ w k. (
    (λ e. (sheet_faults sheet w k).0 (marked-by-sheet w k (mark_call sheet paper) (ap (λ v. v.number) e) (ap (λ v. v.place) e))),
    (λ f. mark-sheet sheet paper w k ((sheet_faults sheet w k).1 f)),
  );
  paper_fault = λ I s w k. (
    (λ e. (schedule_faults I paper w k).0 (marked-by-paper w k I s (mark_call sheet paper) (ap (λ v. v.number) e) (ap (λ v. v.place) e))),
    (λ f. mark-timetable sheet paper I w k s ((schedule_faults I paper w k).1 f)),
  );
  kept = kept_marks sheet paper;
  changed = changed_marks sheet paper;
  form_kept = marks_before_work sheet paper;
  form_changed = changed_for_work sheet paper;
}

pub marker-demands : (sheet paper : List ℕ) {v : Verdict} → v ≡ mark sheet paper → MarkerDemands sheet paper v
marker-demands sheet paper e = rw e (mark-demands sheet paper)

-- ---- a planner
module _ (R : Planner) (sheet buffer : List ℕ) where
  never-short : {a : Answer} → Planned R sheet buffer a → max_text ≤ length buffer → a.number ≡ 31 → ⊥
  never-short (by_text w k e) room n = omega (arith, sheet-numbers w)
  never-short (by21 I e k t o) room n = omega arith
  never-short (by31 I e P t o l) room n = omega (arith, plans_short R I ((sheet_exact sheet I).0 e).0 P t o)
  never-short (by0 I e P t o l) room n = omega arith

  written-range : (I : Instance) → read_instance sheet ≡ accepted I → {a : Answer} → Written R I buffer a → (w : Written R I buffer a) × InRange I w.rule.schedule
  written-range I e w = (w, plans_in_range R I ((sheet_exact sheet I).0 e).0 w.rule.schedule w.rule.trials w.rule.not_stuck)

  plan-demands : PlannerDemands R sheet buffer (plan R sheet buffer)
  plan-demands = record {
    ends = planner_ends R sheet buffer;
    call = plan_call R sheet buffer;
    exactly = planner_exact R sheet buffer;
    sheet_fault = λ w k. (
      (λ e. (sheet_faults sheet w k).0 (planned-by-sheet w k (plan_call R sheet buffer) e.0 e.1)),
      (λ f.
          let a = plan-refused R sheet buffer w k ((sheet_faults sheet w k).1 f) in
          (ap (λ a. a.number) a, ap (λ a. a.place) a)),
    );
    roomy = never-short (plan_call R sheet buffer);
    marked = plan_marked R sheet buffer;
    ample = λ I e ample. let C = ample_memory R sheet I e ample in (C, C.success buffer);
    trials = λ I e. let q = plan-trials R sheet buffer I e in (q, rw q (trial_bound R I));
    in_range = λ I e n. written-range I e ((planner_exact R sheet buffer I e).written n);
    kept = kept_plans R sheet buffer;
    form_kept = plans_before_work R sheet buffer;
  }

  pub planner-demands : {a : Answer} → a ≡ plan R sheet buffer → PlannerDemands R sheet buffer a
  planner-demands e = rw e plan-demands

  pub aware-demands : memory_of R ≡ aware → {a : Answer} → a ≡ plan R sheet buffer → AwareDemands R sheet buffer a
  aware-demands m e = rw e (record { read_back = read_back R m sheet buffer; parent = plain_parent R sheet buffer })

  pub plain-demands : memory_of R ≡ plain → {a : Answer} → a ≡ plan R sheet buffer → PlainDemands R sheet buffer a
  plain-demands m e = rw e (record {
    never_stuck = never_stuck R m sheet buffer;
    plainly = plain_exact R m sheet buffer;
    ample_back = ample_read_back R sheet buffer;
  })

pub two-trials : (sheet buffer : List ℕ) {a : Answer} → a ≡ plan (heft plain) sheet buffer → TwoTrialsATask sheet a
two-trials sheet buffer e I s = ap (λ a. a.trials) e ∙ plan-trials (heft plain) sheet buffer I s ∙ heft_trials I ((sheet_exact sheet I).0 s).0

-- ---- the simulator
module _ (sheet paper : List ℕ) (made steps : ℕ) where
  simulate-demands : SimulatorDemands sheet paper made steps (simulate sheet paper made steps)
  simulate-demands = record {
    ends = numbers_tell sheet paper made steps;
    call = simulator_law sheet paper made steps;
    sheet_fault = λ w k. (
      (λ e. ((mark-demands sheet paper).sheet_fault w k).0 ((text_exact sheet paper made steps (fault_number in_sheet w) k).0 e).0),
      (λ f. ap (λ a. a.progress) (simulate-sheet sheet paper w k ((sheet_faults sheet w k).1 f) made steps)),
    );
    paper_fault = λ I s w k. (
      (λ e. ((mark-demands sheet paper).paper_fault I s w k).0 ((text_exact sheet paper made steps (fault_number in_timetable w) k).0 e).0),
      (λ f. ap (λ a. a.progress) (simulate-timetable sheet paper I w k s ((schedule_faults I paper w k).1 f) made steps)),
    );
    kept = kept_simulations sheet paper made steps;
    form_kept = simulations_before_work sheet paper made steps;
  }

  pub simulator-demands : {a : Simulation} → a ≡ simulate sheet paper made steps → SimulatorDemands sheet paper made steps a
  simulator-demands e = rw e simulate-demands
