-- A planner's answer, by what was read of the board sheet.
use Prim.Native.Nat.{ℕ}
use mathlib.Core.List.{List}
use mathlib.Core.Path.{◌≡◌, refl, sym, ap, ◌∙◌}
use Rattle.rules.specs.Model.{Instance}
use Rattle.rules.specs.InstanceText as Sheet
use Rattle.rules.specs.InstanceText.{read_instance}
use Rattle.rules.specs.Scheduling as Rules
use Rattle.rules.specs.Scheduling.{Planner, outcome}
use Rattle.rules.specs.Calls.{plan_made, plan_on, plan}
use Rattle.rules.proofs.PlannerLaws.{plan-refused, plan-stuck, plan-complete}
use Rattle.std.specs.Prelude.{Err}
use Rattle.rules.specs.declared.refusal.Refusal.{Refusal}
use Rattle.plan_text.specs.Answers.{answer_of}
use Rattle.instance.specs.Reads.{IsRefused}
use Rattle.instance.proofs.AcceptedLaws.{of_sheet}

pub plan-on : (R : Planner) (sheet buffer : List ℕ) (I : Instance) → read_instance sheet ≡ Sheet.accepted I → plan R sheet buffer ≡ plan_on R I buffer
plan-on R sheet buffer I e = by-outcome (outcome R I) refl
  where
    by-outcome : (x : Rules.Outcome) → outcome R I ≡ x → plan R sheet buffer ≡ plan_on R I buffer
    by-outcome (Rules.stuck k trials) o = plan-stuck R sheet buffer I k trials e o ∙ sym (ap (plan_made I buffer) o)
    by-outcome (Rules.complete P trials) o = plan-complete R sheet buffer I P trials e o ∙ sym (ap (plan_made I buffer) o)

pub unread : (R : Planner) (sheet buffer : List ℕ) (e : Refusal) → IsRefused e (read_instance sheet) → answer_of (Err e) 0 buffer ≡ plan R sheet buffer
unread R sheet buffer e q = let f = of_sheet sheet e q in rw f.is (sym (plan-refused R sheet buffer _ f.line f.refused))
