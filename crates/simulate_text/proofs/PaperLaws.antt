-- The simulator's answer, by what was read of the timetable.
use Prim.Native.Nat.{ℕ, ◌+◌, min}
use mathlib.Core.List.{List}
use mathlib.Core.Path.{◌≡◌, sym, ap, ◌∙◌}
use Rattle.rules.specs.Limits.{max_steps}
use Rattle.rules.specs.Model.{Instance, Schedule}
use Rattle.rules.specs.Promises.{WellFormed, Spellable}
use Rattle.rules.specs.ScheduleText.{read_schedule}
use Rattle.rules.specs.Simulation.{Simulation, watch, simulate_read, simulate_on}
use Rattle.rules.proofs.SimulatorLaws.{watch-capped}
use Rattle.model.specs.declared.claim.Claim.{Claim}
use Rattle.model.specs.Claims.{as_claim}
use Rattle.std.specs.Prelude.{Result, Ok, Err}
use Rattle.rules.specs.Simulation.{refused_text}
use Rattle.rules.specs.declared.refusal.Refusal.{Refusal}
use Rattle.rules.specs.Refusals.{refusal_number, refusal_place}
use Rattle.schedule.specs.Reading.{IsRead}
use Rattle.schedule.proofs.ReadLaws.{was_read, was-refused}

module _ (I : Instance) (timetable : List ℕ) (P : Schedule) (r : Result Claim Refusal) (read : IsRead P r (read_schedule I timetable)) (made steps : ℕ) where
  pub paper-watched : WellFormed I → {c : Claim} → r ≡ Ok c → Spellable I P (as_claim c) → {n : ℕ} {a : Simulation}
      → n ≡ min made max_steps + min steps max_steps → a ≡ watch I P n → a ≡ simulate_on I timetable made steps
  paper-watched W {c} e s p q =
      q ∙ ap (watch I P) p ∙ sym (watch-capped I W P (as_claim c) s made steps)
      ∙ sym (ap (λ x. simulate_read I x made steps) (was_read I timetable P r read e))

  pub paper-refused : {e : Refusal} → r ≡ Err e → refused_text (refusal_number e) (refusal_place e) ≡ simulate_on I timetable made steps
  paper-refused q =
      let t = was-refused I timetable P r read q in rw t.is (sym (ap (λ x. simulate_read I x made steps) t.refused))
