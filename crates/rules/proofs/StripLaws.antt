-- The stripper: strip_refused, strip_exact, strip_ends, stripped_short, strip_accepted.
use Prim.Native.Nat.{ℕ}
use mathlib.Core.List.{List}
use mathlib.Core.Logic.{inl, inr}
use mathlib.Core.Path.{◌≡◌, refl, sym, ap, ap₂, ◌∙◌}
use native.Mathlib.Omega.{arith}
use lib.ListN.{length, take}
use lib.Seq.{take-append_seam}
use Rattle.rules.specs.Model.{Instance, Schedule}
use Rattle.rules.specs.Validity.{Claim, Verdict, refused_by, accepted_with, true_claim}
use Rattle.rules.specs.Text.{Fault, in_sheet, in_timetable, fault_number}
use Rattle.rules.specs.InstanceText.{InstanceRead, refused, accepted, read_instance}
use Rattle.rules.specs.ScheduleText.{ScheduleRead, refused as refused_timetable, read, read_schedule}
use Rattle.rules.specs.Calls.{mark}
use Rattle.rules.specs.Promises.{WellFormed}
use Rattle.rules.specs.Conversion.{converted, converted_text, stripped, stripped_text, Output, unwritten, output}
use Rattle.rules.specs.ConversionPromises.{Convertible}
use Rattle.rules.specs.Stripping.{strip_marked, strip_read, strip_on, strip, AcceptedThere, OfTimetable, StrippedExactly, StripExact, StripRefused}
use Rattle.rules.specs.Stripping.{StrippedOrRefused, StripEnds, StrippedShort, StripAccepted}
use Rattle.rules.proofs.JudgeLaws.{Judged, by15, by16, by17, by18, by0, judged}
use Rattle.rules.proofs.MarkerLaws.{mark-timetable, mark-judges, fault-numbered, marker_exact}
use Rattle.rules.proofs.FaultLaws.{timetable-numbers}
use Rattle.rules.proofs.SheetLaws.{sheet_exact}
use Rattle.rules.proofs.TimetableLaws.{timetable-exact, text-long}
use Rattle.rules.proofs.ConversionLaws.{converted-formed}
use Rattle.rules.proofs.StrippedLaws.{left-spelled}
use Rattle.rules.proofs.ConvertLaws.{Outputs, short, fits, outputs, OrTooMany, by41, by42, passes, or-too-many, apart, Behind, output-behind}
use Rattle.rules.proofs.ConvertLaws.{exactly-refused, text-ends, output-ends, converted-read, left-accepted}

-- ---- the answers by cases

-- where 41 and 42 do not apply: the marker's refusal, or what is left of a timetable that it accepts
pub data Strips (I : Instance) (timetable buffer : List ℕ) : Output → Type 0 where
  by_mark : (n k : ℕ) → OfTimetable n → mark (converted_text I) timetable ≡ refused_by n k → Strips I timetable buffer (unwritten n k buffer)
  leaves : (x : AcceptedThere I timetable) → Strips I timetable buffer (output (stripped_text I x.schedule) buffer)

module _ (I : Instance) (timetable buffer : List ℕ) (W : WellFormed I) (fit : Convertible I) where
  is-sheet : read_instance (converted_text I) ≡ accepted (converted I)
  is-sheet = converted-read I W fit

  judged-strips : (P : Schedule) (claim : Claim) → read_schedule (converted I) timetable ≡ read P claim → {v : Verdict} → Judged (converted I) P claim v
      → mark (converted_text I) timetable ≡ v → Strips I timetable buffer (strip_marked I P buffer v)
  judged-strips P claim e (by15 i f) m = by_mark 15 _ (omega arith, omega arith) m
  judged-strips P claim e (by16 j a f) m = by_mark 16 _ (omega arith, omega arith) m
  judged-strips P claim e (by17 t a b f) m = by_mark 17 _ (omega arith, omega arith) m
  judged-strips P claim e (by18 a b d f) m = by_mark 18 _ (omega arith, omega arith) m
  judged-strips P claim e (by0 f) m = leaves (record { convertible = fit; schedule = P; claim = claim; is_read = e; verdict = m })

  read-strips : (r : ScheduleRead) → read_schedule (converted I) timetable ≡ r → Strips I timetable buffer (strip_read I buffer r)
  read-strips (refused_timetable w k) e =
      let n = timetable-numbers w in
      by_mark (fault_number in_timetable w) k (n.0, omega (arith, n.1)) (mark-timetable (converted_text I) timetable (converted I) w k is-sheet e)
  read-strips (read P claim) e =
      judged-strips P claim e (judged (converted I) P claim) (mark-judges (converted_text I) timetable (converted I) P claim is-sheet e)

  pub strips : Strips I timetable buffer (strip_read I buffer (read_schedule (converted I) timetable))
  strips = read-strips (read_schedule (converted I) timetable) refl

-- ---- the stripper's answers

pub strip-refused : (sheet timetable buffer : List ℕ) (w : Fault) (k : ℕ) → read_instance sheet ≡ refused w k
    → strip sheet timetable buffer ≡ unwritten (fault_number in_sheet w) k buffer
unfolding strip
strip-refused sheet timetable buffer w k e = rw (e, strip)

pub strip-accepted : (sheet timetable buffer : List ℕ) (I : Instance) → read_instance sheet ≡ accepted I → strip sheet timetable buffer ≡ strip_on I timetable buffer
unfolding strip
strip-accepted sheet timetable buffer I e = rw (e, strip)

module _ (I : Instance) (timetable buffer : List ℕ) where
  -- the same schedule is read once and again
  read-once : (x y : AcceptedThere I timetable) → x.schedule ≡ y.schedule
  read-once x y = let e = sym x.is_read ∙ y.is_read in cc

  once : (x y : AcceptedThere I timetable) → stripped_text I x.schedule ≡ stripped_text I y.schedule
  once x y = ap (stripped_text I) (read-once x y)

  no-mark : (x : AcceptedThere I timetable) {R : Type 0} (n k : ℕ) → OfTimetable n → mark (converted_text I) timetable ≡ refused_by n k → R
  no-mark x n k t m = let e = ap (λ v. v.number) (sym x.verdict ∙ m) in absurd (omega (arith, t.0))

  written-exactly : (x : AcceptedThere I timetable) {a : Output} → Outputs (stripped_text I x.schedule) buffer a → StrippedExactly I timetable buffer a
  written-exactly x (short l) = record {
    at41 = (λ e. apart (λ q. omega arith) e, λ h. absurd (omega (arith, x.convertible.tasks)));
    at42 = (λ e. apart (λ q. omega arith) e, λ h. absurd (omega (arith, x.convertible.files, h.1)));
    marked = λ n k t. ((λ e. apart (λ q. omega (arith, t.1)) e), λ h. no-mark x n k t h.1);
    at31 = λ n. (
      (λ e. let p : length (stripped_text I x.schedule) ≡ n = ap (λ o. o.place) e in (x, p, omega arith)),
      (λ (y, p, _). ap (λ m. unwritten 31 m buffer) (ap length (once x y) ∙ p)),
    );
    success = λ n left. ((λ e. apart (λ q. omega arith) e), (λ (y, p, r, _). absurd (omega (arith, ap length (once x y)))));
  }
  written-exactly x (fits l) = record {
    at41 = (λ e. apart (λ q. omega arith) e, λ h. absurd (omega (arith, x.convertible.tasks)));
    at42 = (λ e. apart (λ q. omega arith) e, λ h. absurd (omega (arith, x.convertible.files, h.1)));
    marked = λ n k t. ((λ e. apart (λ q. omega (arith, t.0)) e), λ h. no-mark x n k t h.1);
    at31 = λ n. ((λ e. apart (λ q. omega arith) e), (λ (y, p, r). absurd (omega (arith, ap length (once x y)))));
    success = λ n left. (
      (λ e. let p : length (stripped_text I x.schedule) ≡ n = ap (λ o. o.place) e in (x, p, omega arith, ap (λ o. o.buffer) e)),
      (λ (y, p, _, b). rw (once x y, ← p, ← b)),
    );
  }

  marked-exactly : Convertible I → {a : Output} → Strips I timetable buffer a → StrippedExactly I timetable buffer a
  marked-exactly fit (leaves x) = written-exactly x (outputs (stripped_text I x.schedule) buffer)
  marked-exactly fit (by_mark n k t m) = record {
    at41 = (λ e. apart (λ q. omega (arith, t.1)) e, λ h. absurd (omega (arith, fit.tasks)));
    at42 = (λ e. apart (λ q. omega (arith, t.1)) e, λ h. absurd (omega (arith, fit.files, h.1)));
    marked = λ n' k' t'. (
      (λ e. (fit, m ∙ rw (ap (λ o. o.number) e, ap (λ o. o.place) e))),
      (λ h. let e = sym m ∙ h.1 in rw (ap (λ v. v.number) e, ap (λ v. v.place) e)),
    );
    at31 = λ n'. ((λ e. apart (λ q. omega (arith, t.1)) e), (λ h. no-mark h.0 n k t m));
    success = λ n' left. ((λ e. apart (λ q. omega (arith, t.0)) e), (λ h. no-mark h.0 n k t m));
  }

  stripped-exactly : {a b : Output} → (Convertible I → Strips I timetable buffer a) → OrTooMany I buffer a b → StrippedExactly I timetable buffer b
  stripped-exactly s (by41 l) = record {
    at41 = (λ _. l, λ _. refl);
    at42 = (λ e. apart (λ q. omega arith) e, λ h. absurd (omega (arith, h.0)));
    marked = λ n k t. ((λ e. apart (λ q. omega (arith, t.1)) e), λ h. absurd (omega (arith, h.0.tasks)));
    at31 = λ n. ((λ e. apart (λ q. omega arith) e), (λ h. absurd (omega (arith, h.0.convertible.tasks))));
    success = λ n left. ((λ e. apart (λ q. omega arith) e), (λ h. absurd (omega (arith, h.0.convertible.tasks))));
  }
  stripped-exactly s (by42 t l) = record {
    at41 = (λ e. apart (λ q. omega arith) e, λ h. absurd (omega arith));
    at42 = (λ _. (t, l), λ _. refl);
    marked = λ n k t. ((λ e. apart (λ q. omega (arith, t.1)) e), λ h. absurd (omega (arith, h.0.files)));
    at31 = λ n. ((λ e. apart (λ q. omega arith) e), (λ h. absurd (omega (arith, h.0.convertible.files))));
    success = λ n left. ((λ e. apart (λ q. omega arith) e), (λ h. absurd (omega (arith, h.0.convertible.files))));
  }
  stripped-exactly s (passes fit) = marked-exactly fit (s fit)

pub strip_exact : StripExact
strip_exact sheet timetable buffer I e =
    rw (strip-accepted sheet timetable buffer I e)
    (stripped-exactly I timetable buffer (strips I timetable buffer ((sheet_exact sheet I).0 e).0) (or-too-many I buffer _))

-- ---- 1 to 4

strips-behind : {I : Instance} {timetable buffer : List ℕ} {a : Output} → Strips I timetable buffer a → Behind a
strips-behind (by_mark n k t m) = λ _. omega (arith, t.0)
strips-behind {I} {timetable} {buffer} (leaves x) = output-behind (outputs (stripped_text I x.schedule) buffer)

behind-by : {I : Instance} {timetable buffer : List ℕ} {a b : Output} → (Convertible I → Strips I timetable buffer a) → OrTooMany I buffer a b → Behind b
behind-by s (by41 l) = λ _. omega arith
behind-by s (by42 t l) = λ _. omega arith
behind-by s (passes fit) = strips-behind (s fit)

pub strip_refused : StripRefused
strip_refused sheet timetable buffer = exactly-refused sheet buffer (strip sheet timetable buffer) (strip-refused sheet timetable buffer)
    (λ I e. rw (strip-accepted sheet timetable buffer I e)
    (behind-by (strips I timetable buffer ((sheet_exact sheet I).0 e).0) (or-too-many I buffer _)))

-- ---- how it ends

strips-ends : {I : Instance} {timetable buffer : List ℕ} {a : Output} → Strips I timetable buffer a → StrippedOrRefused buffer a
strips-ends (by_mark n k t m) = inr (t, refl)
strips-ends {I} {timetable} {buffer} (leaves x) = inl (output-ends (outputs (stripped_text I x.schedule) buffer))

ends_by : {I : Instance} {timetable buffer : List ℕ} {a b : Output} → (Convertible I → Strips I timetable buffer a) → OrTooMany I buffer a b
    → StrippedOrRefused buffer b
ends_by s (by41 l) = inl (inr (tt, refl))
ends_by s (by42 t l) = inl (inr (tt, refl))
ends_by s (passes fit) = strips-ends (s fit)

pub strip_ends : StripEnds
strip_ends sheet timetable buffer = go (read_instance sheet) refl
  where
    go : (r : InstanceRead) → read_instance sheet ≡ r → StrippedOrRefused buffer (strip sheet timetable buffer)
    go (refused w k) e = rw (strip-refused sheet timetable buffer w k e) (inl (text-ends w k buffer))
    go (accepted I) e = rw (strip-accepted sheet timetable buffer I e)
        (ends_by (strips I timetable buffer ((sheet_exact sheet I).0 e).0) (or-too-many I buffer _))

-- ---- what was written

pub strip_accepted : StripAccepted
strip_accepted sheet timetable buffer z = go (read_instance sheet) refl
  where
    go : (r : InstanceRead) → read_instance sheet ≡ r
        → (claim : Claim) × (mark sheet (take (strip sheet timetable buffer).place (strip sheet timetable buffer).buffer) ≡ accepted_with claim)
    go (refused w k) e = fault-numbered in_sheet w (ap (λ a. a.number) (sym (strip-refused sheet timetable buffer w k e)) ∙ z)
    go (accepted I) e =
        let a = strip sheet timetable buffer in
        let same : a ≡ record { number = 0; place = a.place; buffer = a.buffer } = ap (λ n. record { number = n; place = a.place; buffer = a.buffer }) z in
        let (x, p, _, b) = ((strip_exact sheet timetable buffer I e).success a.place a.buffer).0 same in
        let y = left-accepted sheet timetable I x.claim e x.convertible x.verdict in
        let one : x.schedule ≡ y.schedule = let q = sym x.is_read ∙ y.is_read in cc in
        let text : take a.place a.buffer ≡ stripped_text I y.schedule =
        ap₂ take (sym p) (sym b) ∙ take-append_seam (stripped_text I x.schedule) _ ∙ ap (stripped_text I) one in
        (true_claim I (stripped I y.schedule), ap (mark sheet) text ∙ y.verdict)

pub stripped_short : StrippedShort
stripped_short I W timetable x =
    let WK = converted-formed I W x.convertible in
    let y = (marker_exact (converted_text I) timetable (converted I) (converted-read I W x.convertible) x.claim).0 x.verdict in
    let P = y.schedule in
    let one : P ≡ x.schedule =
    let q = sym ((timetable-exact (converted I) WK timetable P x.claim).1 (y.spellable, y.due_lines)) ∙ x.is_read in cc in
    rw (← one)
    (text-long I (stripped I P) (true_claim I (stripped I P)) W (left-spelled I P x.claim W WK y.spellable y.valid))
