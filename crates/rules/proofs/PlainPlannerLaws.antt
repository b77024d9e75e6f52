-- Order 4, the calls: what a plain planner answers, what the marker says to what was written, and ample memory.
use Prim.Native.Nat.{ℕ, ◌≤◌, ◌<◌}
use mathlib.Core.List.{List}
use mathlib.Core.Logic.{◌⊎◌, inl, inr}
use mathlib.Core.Path.{◌≡◌, refl, sym, ap, ◌∙◌}
use native.Mathlib.Omega.{arith}
use lib.Dec.{leb}
use lib.ListN.{length, take}
use borrow.Author.Tests.{leb-true, leb-false, le-leb, lt-leb}
use Rattle.rules.specs.Model.{Instance, Schedule}
use Rattle.rules.specs.Validity.{ClaimTrue, Apart, AllOnTime, WithinLimits, Valid, Verdict, accepted_with, refused_by, true_claim, judge}
use Rattle.rules.specs.Scheduling.{plain, Planner, heft, complete, outcome}
use Rattle.rules.specs.Text.{too_long, malformed, out_of_range, undue}
use Rattle.rules.specs.InstanceText.{accepted, read_instance}
use Rattle.rules.specs.Calls.{mark, Answer, plan_text, plan_by, plan}
use Rattle.rules.specs.Promises.{Spellable, Ample}
use Rattle.rules.specs.CallsExact.{Planned, by_text, by21, by31, by0 as succeeded}
use Rattle.rules.specs.PlainPlanners.{HeftTrials, PlainExact, NeverStuck, MarkedBack, PlanMarked, PlainParent, AmpleReadBack}
use Rattle.rules.proofs.Tests.{split}
use Rattle.rules.proofs.SheetLaws.{sheet_exact}
use Rattle.rules.proofs.ResidencyLaws.{held-under}
use Rattle.rules.proofs.JudgeLaws.{Judged, by15, by16, by17, by18, by0, judged as judge-ends}
use Rattle.rules.proofs.TimetableLaws.{timetable-exact}
use Rattle.rules.proofs.MarkerLaws.{mark-judges}
use Rattle.rules.proofs.CompleteLaws.{claim-tells}
use Rattle.rules.proofs.ValidLaws.{judge-exact}
use Rattle.rules.proofs.PlaceLaws.{place_law}
use Rattle.rules.proofs.OutcomeLaws.{completed-apart, completed-on_time, completed-claim, completed-spellable, completed-valid}
use Rattle.rules.proofs.PlainLaws.{completed-trials, outcome-same}
use Rattle.rules.proofs.AmpleLaws.{plain-completes}
use Rattle.rules.proofs.CallsExactLaws.{plan_call}
use Rattle.rules.proofs.PlannerLaws.{plan-fits, plan-short, written-text, Succeeds, succeeds, accepted-back}

-- ---- the answer of a plain planner

module _ (R : Planner) (sheet buffer : List ℕ) (I : Instance) (e : read_instance sheet ≡ accepted I)
    (P : Schedule) (trials : ℕ) (o : outcome R I ≡ complete P trials) where
  fits-only : (plan R sheet buffer).number ≡ 0 → length (plan_text I P) ≤ length buffer
  fits-only n = split (leb (length (plan_text I P)) (length buffer))
      (λ f. leb-true _ _ f)
      (λ f. absurd (omega (arith, ap (λ a. a.number) (plan-short R sheet buffer I e P trials o f), n)))

  short-only : (plan R sheet buffer).number ≡ 31 → length buffer < length (plan_text I P)
  short-only n = split (leb (length (plan_text I P)) (length buffer))
      (λ f. absurd (omega (arith, ap (λ a. a.number) (plan-fits R sheet buffer I e P trials o f), n)))
      (λ f. leb-false _ _ f)

pub heft_trials : HeftTrials
heft_trials I W =
    let (P, trials, o) = plain-completes (heft plain) refl I W in
    rw o (completed-trials I P trials o)

pub plain_exact : PlainExact
plain_exact R p sheet buffer I e =
    let (P, trials, o) = plain-completes R p I ((sheet_exact sheet I).0 e).0 in
    record {
      schedule = P;
      trials = trials;
      completes = o;
      at0 = (
        (λ a. fits-only R sheet buffer I e P trials o (ap (λ a. a.number) a)),
        (λ l. plan-fits R sheet buffer I e P trials o (le-leb _ _ l)),
      );
      at31 = (
        (λ a. short-only R sheet buffer I e P trials o (ap (λ a. a.number) a)),
        (λ l. plan-short R sheet buffer I e P trials o (lt-leb _ _ l)),
      );
    }

pub never_stuck : NeverStuck
never_stuck R p sheet buffer = by (plan_call R sheet buffer)
  where
    by : {a : Answer} → Planned R sheet buffer a → a.number ≡ 21 → ⊥
    by (by_text too_long k e) n = omega arith
    by (by_text malformed k e) n = omega arith
    by (by_text out_of_range k e) n = omega arith
    by (by_text undue k e) n = omega arith
    by (by21 I e k t o) n =
        let (P, trials, q) = plain-completes R p I ((sheet_exact sheet I).0 e).0 in
        let z : ◌≡◌ {A = ℕ} 0 1 = cc in omega arith
    by (by31 I e P t o l) n = omega arith
    by (succeeded I e P t o l) n = omega arith

-- ---- what was written, read back

module _ (R : Planner) (sheet buffer : List ℕ) (s : Succeeds R sheet buffer) where
  abbrev I : Instance
  I = s.job

  abbrev P : Schedule
  P = s.written.rule.schedule

  abbrev back : Verdict
  back = mark sheet (take (plan R sheet buffer).place (plan R sheet buffer).buffer)

  spelled : Spellable I P (true_claim I P)
  spelled = completed-spellable R I s.formed P s.written.rule.trials s.written.rule.not_stuck

  judged : back ≡ judge I P (true_claim I P)
  judged =
      mark-judges sheet _ I P (true_claim I P) s.sheet_accepted
      ((timetable-exact I s.formed _ P (true_claim I P)).1 (spelled, written-text R I buffer (plan R sheet buffer) s.written))

  apart : Apart I P
  apart = completed-apart R I s.formed P s.written.rule.trials s.written.rule.not_stuck

  on_time : AllOnTime I P
  on_time = completed-on_time R I s.formed P s.written.rule.trials s.written.rule.not_stuck

  claimed : ClaimTrue I P (true_claim I P)
  claimed = completed-claim R I s.formed P s.written.rule.trials s.written.rule.not_stuck

  valid : WithinLimits I P → Valid I P (true_claim I P)
  valid l = completed-valid R I s.formed P s.written.rule.trials s.written.rule.not_stuck l

  marked : MarkedBack R sheet buffer (plan R sheet buffer)
  marked =
      let x = judge-exact I s.formed P (true_claim I P) spelled in
      let y = place_law I s.formed P (true_claim I P) spelled in
      record {
        job = I;
        sheet_accepted = s.sheet_accepted;
        written = s.written;
        claim_true = claimed;
        told = claim-tells I P (true_claim I P) claimed;
        at0 = ((λ h. (x.0 (sym judged ∙ h)).within), (λ l. judged ∙ x.1 (valid l)));
        at17 = λ t. ((λ h. ((y.at17 t).0 (sym judged ∙ h)).2), (λ f. judged ∙ (y.at17 t).1 (apart, on_time, f)));
        only = only-17 (judge-ends I P (true_claim I P)) refl;
      }
    where
      -- no runs share an instant, no file is early and the claim is true: 17 alone is left
      only-17 : {v : Verdict} → Judged I P (true_claim I P) v → judge I P (true_claim I P) ≡ v
          → (back ≡ accepted_with (true_claim I P)) ⊎ ((t : ℕ) × (back ≡ refused_by 17 t))
      only-17 (by15 i f) e =
          let x = (((place_law I s.formed P (true_claim I P) spelled).at15 i).0 e).holds in
          absurd (apart i x.other x.exists x.other_exists x.differs x.processor x.shares)
      only-17 (by16 j a f) e =
          let x = (((place_law I s.formed P (true_claim I P) spelled).at16 j).0 e).1.holds in
          absurd (x.late (on_time x.file x.exists))
      only-17 (by17 t a b f) e = inr (t, judged ∙ e)
      only-17 (by18 a b d x) e =
          let y = (place_law I s.formed P (true_claim I P) spelled).at18.0 e in
          absurd (y.3 (valid y.2))
      only-17 (by0 p) e = inl (judged ∙ e)

pub plan_marked : PlanMarked
plan_marked R sheet buffer n = marked R sheet buffer (succeeds R sheet buffer n)

-- ---- ample memory

pub plain_parent : PlainParent
unfolding plan_by
plain_parent R sheet buffer I e ample = rw (e, outcome-same I ((sheet_exact sheet I).0 e).0 ample R, plan_by)

pub ample_read_back : AmpleReadBack
ample_read_back R sheet buffer I e ample n =
    let s = succeeds R sheet buffer n in
    let q : accepted s.job ≡ accepted I = sym s.sheet_accepted ∙ e in
    let j : s.job ≡ I = cc in
    let enough : Ample s.job = rw j ample in
    accepted-back R sheet buffer s (λ c t. omega (arith, held-under s.job s.written.rule.schedule c t, enough c))
