-- The stripper's answer, by what marking the timetable found; what is left of an accepted one can be written, with the claim that its changes give.
use Prim.Native.Nat.{ℕ, ◌+◌}
use mathlib.Core.List.{List}
use mathlib.Core.Option.{Option}
use mathlib.Core.Path.{◌≡◌, refl, sym, ap₂, subst, ◌∙◌}
use lib.ListN.{length}
use native.Mathlib.Omega.{arith}
use borrow.Author.Tests.{eq-eqb, ne_eqb}
use Rattle.rules.specs.Model.{Colour, blue, red, Instance, Schedule}
use Rattle.rules.specs.Validity.{Claim, Verdict, judge, accepted_with, AllOnTime, makespan, peak, true_claim}
use Rattle.rules.specs.Changes.{Change, InTime, greatest_total}
use Rattle.rules.specs.Text.{in_timetable}
use Rattle.rules.specs.ScheduleText.{read_schedule}
use Rattle.rules.specs.Promises.{WellFormed, Spellable}
use Rattle.rules.specs.Conversion.{added_count, converted, stripped, stripped_text, unwritten, output}
use Rattle.rules.specs.Stripping.{strip_read}
use Rattle.rules.specs.ConversionPromises.{Convertible}
use Rattle.rules.proofs.JudgeLaws.{Judged, by15, by16, by17, by18, by0, judged}
use Rattle.rules.proofs.ValidLaws.{judge-exact}
use Rattle.rules.proofs.TimetableLaws.{timetable-exact}
use Rattle.rules.proofs.MarkerLaws.{fault-numbered}
use Rattle.rules.proofs.ConversionLaws.{converted-formed}
use Rattle.rules.proofs.StrippedLaws.{left-spelled, left-valid}
use Rattle.rules.proofs.ChangeLaws.{changes_law}
use Rattle.model.specs.declared.job.Job.{Job}
use Rattle.model.specs.declared.layout.Schedule.{Schedule as StoredSchedule}
use Rattle.model.specs.Layout.{entries_of, schedule_from}
use Rattle.model.specs.Jobs.{instance_in, schedule_of, ScheduleInBounds, AllPlaced}
use Rattle.model.proofs.JobLaws.{tasks-in, files-in, placed-complete}
use Rattle.model.proofs.SpelledLaws.{spelled-placed, spelled-bounds}
use Rattle.convert_text.specs.Converts.{wide_schedule}
use Rattle.mark_text.specs.Marked.{Marked, by_text, judges}
use Rattle.validator.specs.Memories.{ByChanges}

-- a judgement by 0 accepts
zero-accepts : {K : Instance} {P : Schedule} {claim : Claim} {v : Verdict} → Judged K P claim v → v.number ≡ 0 → v ≡ accepted_with claim
zero-accepts (by15 i f) z = absurd (omega arith)
zero-accepts (by16 j a f) z = absurd (omega arith)
zero-accepts (by17 t a b f) z = absurd (omega arith)
zero-accepts (by18 a b d f) z = absurd (omega arith)
zero-accepts (by0 p) z = refl

module _ (I : Instance) (paper : List ℕ) where
  refused-there : (buffer : List ℕ) {P : Schedule} {v : Verdict} → Marked (converted I) paper P v → (v.number ≡ 0 → ⊥)
      → unwritten v.number v.place buffer ≡ strip_read I buffer (read_schedule (converted I) paper)
  refused-there buffer (by_text w k r) h = rw r
  refused-there buffer {P} (judges claim r) h = rw (r, ne_eqb (judge (converted I) P claim).number 0 h)

  made-there : (buffer : List ℕ) {P : Schedule} {v : Verdict} → Marked (converted I) paper P v → v.number ≡ 0
      → output (stripped_text I P) buffer ≡ strip_read I buffer (read_schedule (converted I) paper)
  made-there buffer (by_text w k r) z = fault-numbered in_timetable w z
  made-there buffer {P} (judges claim r) z = rw (r, eq-eqb (judge (converted I) P claim).number 0 z)

  valid-there : WellFormed I → Convertible I → {P : Schedule} {v : Verdict} → Marked (converted I) paper P v → v.number ≡ 0
      → Spellable I (stripped I P) (true_claim I (stripped I P)) × AllOnTime I (stripped I P)
  valid-there W fit (by_text w k r) z = fault-numbered in_timetable w z
  valid-there W fit {P} (judges claim r) z =
      let WK = converted-formed I W fit in
      let S = ((timetable-exact (converted I) WK paper P claim).0 r).0 in
      let valid = (judge-exact (converted I) WK P claim S).0 (zero-accepts (judged (converted I) P claim) z) in
      (left-spelled I P claim W WK S valid, (left-valid I P claim W WK S valid).on_time)

-- the same of the numbers of the converted job, and of what was read into a schedule
module _ {I K : Instance} {P Q : Schedule} (fit : Convertible I) (same : K ≡ converted I) (wide : Q ≡ P) (paper : List ℕ) {v : Verdict} (marked : Marked K paper Q v) where
  there : Marked (converted I) paper P v
  there = subst (λ K. Marked K paper P v) same (subst (λ R. Marked K paper R v) wide marked)

  pub left-refused : (buffer : List ℕ) → (v.number ≡ 0 → ⊥) → unwritten v.number v.place buffer ≡ strip_read I buffer (read_schedule (converted I) paper)
  left-refused buffer = refused-there I paper buffer there

  pub left-made : (buffer : List ℕ) → v.number ≡ 0 → output (stripped_text I P) buffer ≡ strip_read I buffer (read_schedule (converted I) paper)
  left-made buffer = made-there I paper buffer there

  pub left-good : WellFormed I → v.number ≡ 0 → Spellable I (stripped I P) (true_claim I (stripped I P)) × AllOnTime I (stripped I P)
  left-good W = valid-there I paper W fit there

-- ---- what is left

-- its true claim, by its changes
module _ (j : Job) (xs : StoredSchedule) (W : WellFormed (instance_in j)) (placed : AllPlaced j xs) (on_time : AllOnTime (instance_in j) (schedule_of j xs)) where
  abbrev K : Instance
  K = instance_in j

  abbrev Q : Schedule
  Q = schedule_of j xs

  same-peak : (c : Colour) (xs : List Change) → InTime K Q c xs → greatest_total xs ≡ peak K Q c
  same-peak c ys x = (changes_law K W Q (placed-complete j xs placed) on_time c ys x).same_peak

  pub claim-by-changes : {span blue_peak red_peak : ℕ} {over : Option ℕ} → ByChanges K Q over blue_peak red_peak → span ≡ makespan K Q
      → ◌≡◌ {A = Claim} (record { span = span; blue_peak = blue_peak; red_peak = red_peak }) (true_claim K Q)
  unfolding true_claim
  claim-by-changes m e =
      let blues = m.is_blue_peak ∙ same-peak blue m.blues m.blue_in_time in
      let reds = m.is_red_peak ∙ same-peak red m.reds m.red_in_time in
      λ k. record { span = e k; blue_peak = blues k; red_peak = reds k }

-- in a schedule of its own it is in its bounds
module _ (j : Job) (xs : StoredSchedule) (P : Schedule) (e : schedule_of j xs ≡ P) (s : Spellable (instance_in j) P (true_claim (instance_in j) P)) where
  spelled : Spellable (instance_in j) (schedule_of j xs) (true_claim (instance_in j) P)
  spelled = rw e s

  pub left-bounds : ScheduleInBounds j xs
  left-bounds = spelled-bounds j xs _ spelled

  pub left-placed : AllPlaced j xs
  left-placed = spelled-placed j xs _ spelled

-- what is left of a schedule of the converted job, by the counts of the job
pub left-is : (j : Job) (xs : StoredSchedule) (Q : Schedule) (m : ℕ) → m ≡ added_count (instance_in j)
    → ((I : Instance) → added_count I ≡ m → Q ≡ stripped I (schedule_from (m + length j.tasks.now) (m + length j.files.now) (entries_of xs)))
    → Q ≡ stripped (instance_in j) (wide_schedule (instance_in j) xs)
left-is j xs Q m e h =
    h (instance_in j) (sym e)
    ∙ ap₂ (λ n k. stripped (instance_in j) (schedule_from n k (entries_of xs))) (omega (arith, e, tasks-in j)) (omega (arith, e, files-in j))
