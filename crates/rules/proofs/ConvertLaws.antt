-- Order 7, the converter: convert_refused, convert_exact, convert_ends, converted_short, same_sheet, converted_reads, stripped_accepted, extended_accepted.
use Prim.Native.Nat.{ℕ, suc, ◌+◌, ◌≤◌, ◌<◌}
use mathlib.Core.List.{List, [], ◌∷◌, map}
use mathlib.Core.Logic.{◌↔◌, inl, inr}
use mathlib.Core.Path.{◌≡◌, refl, sym, ap, ap₂, ◌∙◌}
use native.Mathlib.Omega.{arith}
use native.Mathlib.Nat.{zero-add}
use lib.Dec.{leb, ltb}
use lib.ListN.{length, get_or, take}
use lib.Seq.{take-append_seam}
use borrow.Author.Tests.{leb-true, leb-false, ltb-true, ltb-false}
use Rattle.rules.specs.Count.{list_below}
use Rattle.rules.specs.Limits.{max_tasks, max_files}
use Rattle.rules.specs.Model.{Instance, Task, File, task_count, file_count, NoWork}
use Rattle.rules.specs.Validity.{Claim, accepted_with, true_claim}
use Rattle.rules.specs.Text.{Fault, too_long, malformed, out_of_range, undue, in_sheet, fault_number}
use Rattle.rules.specs.InstanceText.{InstanceRead, refused, accepted, read_instance, instance_text}
use Rattle.rules.specs.ScheduleText.{schedule_text}
use Rattle.rules.specs.Calls.{mark, overwritten}
use Rattle.rules.specs.Promises.{WellFormed}
use Rattle.rules.specs.Conversion.{has_work, added_count, without_work, shifted_by, converted, converted_text, stripped, stripped_text, extended}
use Rattle.rules.specs.Conversion.{Output, unwritten, output, if_convertible, convert_on, convert}
use Rattle.rules.specs.ConversionPromises.{Convertible, ConvertedExactly, ConvertExact, ConvertRefused, ConvertedOrRefused, ConvertEnds, ConvertedShort}
use Rattle.rules.specs.ConversionPromises.{SameSheet, ConvertedReads, LeftAccepted, StrippedAccepted, ExtendedAccepted}
use Rattle.rules.proofs.Tests.{split}
use Rattle.rules.proofs.CountLaws.{sum-zero}
use Rattle.rules.proofs.WhereLaws.{length-where}
use Rattle.rules.proofs.MarkerLaws.{marker_exact}
use Rattle.rules.proofs.FaultLaws.{fault-told, sheet-numbers}
use Rattle.rules.proofs.SheetLaws.{sheet_exact, text-long}
use Rattle.rules.proofs.TimetableLaws.{timetable-exact}
use Rattle.rules.proofs.BeforeWorkLaws.{reads_older, same_older}
use Rattle.rules.proofs.ConversionLaws.{tasks-converted, files-converted, converted-formed, converted-idle}
use Rattle.rules.proofs.StrippedLaws.{left-valid, left-spelled, left-span, left-blue, left-red}
use Rattle.rules.proofs.ExtendedLaws.{extended-valid, extended-spelled}

-- ---- the answers by cases

-- a text that is written or too long
pub data Outputs (text buffer : List ℕ) : Output → Type 0 where
  short : length buffer < length text → Outputs text buffer (unwritten 31 (length text) buffer)
  fits : length text ≤ length buffer → Outputs text buffer (record { number = 0; place = length text; buffer = overwritten text buffer })

pub outputs : (text buffer : List ℕ) → Outputs text buffer (output text buffer)
outputs text buffer = split (leb (length text) (length buffer)) (λ e. rw e (fits (leb-true _ _ e))) (λ e. rw e (short (leb-false _ _ e)))

-- 41, 42 or another answer
pub data OrTooMany (I : Instance) (buffer : List ℕ) (a : Output) : Output → Type 0 where
  by41 : max_tasks < added_count I + task_count I → OrTooMany I buffer a (unwritten 41 0 buffer)
  by42 : added_count I + task_count I ≤ max_tasks → max_files < added_count I + file_count I → OrTooMany I buffer a (unwritten 42 0 buffer)
  passes : Convertible I → OrTooMany I buffer a a

pub or-too-many : (I : Instance) (buffer : List ℕ) (a : Output) → OrTooMany I buffer a (if_convertible I buffer a)
or-too-many I buffer a =
    let t : task_count (converted I) ≡ added_count I + task_count I = tasks-converted I in
    let f : file_count (converted I) ≡ added_count I + file_count I = files-converted I in
    let n = task_count (converted I) in
    let q = file_count (converted I) in
    split (ltb max_tasks n)
    (λ x. rw x (by41 (omega (arith, ltb-true max_tasks n x))))
    (λ x. split (ltb max_files q)
    (λ y. rw (x, y) (by42 (omega (arith, ltb-false max_tasks n x)) (omega (arith, ltb-true max_files q y))))
    (λ y. rw (x, y) (passes (record { tasks = omega (arith, ltb-false max_tasks n x); files = omega (arith, ltb-false max_files q y) }))))

-- ---- the converter's answers

pub convert-refused : (sheet buffer : List ℕ) (w : Fault) (k : ℕ) → read_instance sheet ≡ refused w k
    → convert sheet buffer ≡ unwritten (fault_number in_sheet w) k buffer
unfolding convert
convert-refused sheet buffer w k e = rw (e, convert)

pub convert-accepted : (sheet buffer : List ℕ) (I : Instance) → read_instance sheet ≡ accepted I → convert sheet buffer ≡ convert_on I buffer
unfolding convert
convert-accepted sheet buffer I e = rw (e, convert)

-- answers with other numbers are others
pub apart : {R : Type 0} {a b : Output} → (a.number ≡ b.number → ⊥) → a ≡ b → R
apart h e = absurd (h (ap (λ x. x.number) e))

module _ (I : Instance) (buffer : List ℕ) where
  abbrev text : List ℕ
  text = converted_text I

  written-exactly : Convertible I → {a : Output} → Outputs text buffer a → ConvertedExactly I buffer a
  written-exactly fit (short l) = record {
    at41 = (λ e. apart (λ q. omega arith) e, λ h. absurd (omega (arith, fit.tasks)));
    at42 = (λ e. apart (λ q. omega arith) e, λ h. absurd (omega (arith, fit.files, h.1)));
    at31 = (λ _. (fit, l), λ _. refl);
    success = (λ e. apart (λ q. omega arith) e, λ h. absurd (omega (arith, h.1)));
  }
  written-exactly fit (fits l) = record {
    at41 = (λ e. apart (λ q. omega arith) e, λ h. absurd (omega (arith, fit.tasks)));
    at42 = (λ e. apart (λ q. omega arith) e, λ h. absurd (omega (arith, fit.files, h.1)));
    at31 = (λ e. apart (λ q. omega arith) e, λ h. absurd (omega (arith, h.1)));
    success = (λ _. (fit, l), λ _. refl);
  }

  converted-exactly : {a : Output} → OrTooMany I buffer (output text buffer) a → ConvertedExactly I buffer a
  converted-exactly (by41 l) = record {
    at41 = (λ _. l, λ _. refl);
    at42 = (λ e. apart (λ q. omega arith) e, λ h. absurd (omega (arith, h.0)));
    at31 = (λ e. apart (λ q. omega arith) e, λ h. absurd (omega (arith, h.0.tasks)));
    success = (λ e. apart (λ q. omega arith) e, λ h. absurd (omega (arith, h.0.tasks)));
  }
  converted-exactly (by42 t l) = record {
    at41 = (λ e. apart (λ q. omega arith) e, λ h. absurd (omega arith));
    at42 = (λ _. (t, l), λ _. refl);
    at31 = (λ e. apart (λ q. omega arith) e, λ h. absurd (omega (arith, h.0.files)));
    success = (λ e. apart (λ q. omega arith) e, λ h. absurd (omega (arith, h.0.files)));
  }
  converted-exactly (passes fit) = written-exactly fit (outputs text buffer)

pub convert_exact : ConvertExact
convert_exact sheet buffer I e = rw (convert-accepted sheet buffer I e) (converted-exactly I buffer (or-too-many I buffer (output (converted_text I) buffer)))

-- ---- 1 to 4

-- an answer behind an accepted sheet: none of 1 to 4
abbrev pub Behind : Output → Type 0
Behind a = 1 ≤ a.number → 4 < a.number

pub output-behind : {text buffer : List ℕ} {a : Output} → Outputs text buffer a → Behind a
output-behind (short l) = λ _. omega arith
output-behind (fits l) = λ h. absurd (omega arith)

pub too-many-behind : {I : Instance} {buffer : List ℕ} {a b : Output} → Behind a → OrTooMany I buffer a b → Behind b
too-many-behind h (by41 l) = λ _. omega arith
too-many-behind h (by42 t l) = λ _. omega arith
too-many-behind h (passes f) = h

-- so a call that answers a refused sheet by its fault, and an accepted one behind, does so exactly then
pub exactly-refused : (sheet buffer : List ℕ) (a : Output)
    → ((w : Fault) (k : ℕ) → read_instance sheet ≡ refused w k → a ≡ unwritten (fault_number in_sheet w) k buffer)
    → ((I : Instance) → read_instance sheet ≡ accepted I → Behind a)
    → (w : Fault) (k : ℕ) → (a ≡ unwritten (fault_number in_sheet w) k buffer) ↔ (read_instance sheet ≡ refused w k)
exactly-refused sheet buffer a r b w k = (go (read_instance sheet) refl, r w k)
  where
    go : (x : InstanceRead) → read_instance sheet ≡ x → a ≡ unwritten (fault_number in_sheet w) k buffer → read_instance sheet ≡ refused w k
    go (refused v j) e q =
        let s = sym (r v j e) ∙ q in
        let n : v ≡ w = fault-told in_sheet v w (ap (λ o. o.number) s) in
        let p : j ≡ k = ap (λ o. o.place) s in
        e ∙ ap₂ refused n p
    go (accepted I) e q =
        let n : a.number ≡ fault_number in_sheet w = ap (λ o. o.number) q in
        let x = sheet-numbers w in
        absurd (omega (arith, b I e (omega (arith, x.0)), x.1))

pub convert_refused : ConvertRefused
convert_refused sheet buffer = exactly-refused sheet buffer (convert sheet buffer) (convert-refused sheet buffer)
    (λ I e. rw (convert-accepted sheet buffer I e)
    (too-many-behind (output-behind (outputs (converted_text I) buffer)) (or-too-many I buffer (output (converted_text I) buffer))))

-- ---- how it ends

pub text-ends : (w : Fault) (k : ℕ) (buffer : List ℕ) → ConvertedOrRefused buffer (unwritten (fault_number in_sheet w) k buffer)
text-ends too_long k buffer = inr (tt, refl)
text-ends malformed k buffer = inr (tt, refl)
text-ends out_of_range k buffer = inr (tt, refl)
text-ends undue k buffer = inr (tt, refl)

pub output-ends : {text buffer : List ℕ} {a : Output} → Outputs text buffer a → ConvertedOrRefused buffer a
output-ends (short l) = inr (tt, refl)
output-ends (fits l) = inl refl

pub too-many-ends : {I : Instance} {buffer : List ℕ} {a b : Output} → ConvertedOrRefused buffer a → OrTooMany I buffer a b → ConvertedOrRefused buffer b
too-many-ends h (by41 l) = inr (tt, refl)
too-many-ends h (by42 t l) = inr (tt, refl)
too-many-ends h (passes f) = h

pub convert_ends : ConvertEnds
convert_ends sheet buffer = go (read_instance sheet) refl
  where
    go : (r : InstanceRead) → read_instance sheet ≡ r → ConvertedOrRefused buffer (convert sheet buffer)
    go (refused w k) e = rw (convert-refused sheet buffer w k e) (text-ends w k buffer)
    go (accepted I) e = rw (convert-accepted sheet buffer I e)
        (too-many-ends (output-ends (outputs (converted_text I) buffer)) (or-too-many I buffer (output (converted_text I) buffer)))

-- ---- the sheet written

pub converted-read : (I : Instance) → WellFormed I → Convertible I → read_instance (converted_text I) ≡ accepted (converted I)
converted-read I W fit = (sheet_exact (converted_text I) (converted I)).1 (converted-formed I W fit, refl)

pub converted_short : ConvertedShort
converted_short I W fit = text-long (converted I) (converted-formed I W fit)

-- on success the text is written
pub record Success (I : Instance) (a : Output) : Type 0 where
  pub fit : Convertible I
  pub text : take a.place a.buffer ≡ converted_text I

made : {I : Instance} {buffer : List ℕ} {a : Output} → Convertible I → Outputs (converted_text I) buffer a → a.number ≡ 0 → Success I a
made fit (short l) z = absurd (omega arith)
made {I} fit (fits l) z = record { fit = fit; text = take-append_seam (converted_text I) _ }

succeeded : {I : Instance} {buffer : List ℕ} {a : Output} → OrTooMany I buffer (output (converted_text I) buffer) a → a.number ≡ 0 → Success I a
succeeded (by41 l) z = absurd (omega arith)
succeeded (by42 t l) z = absurd (omega arith)
succeeded {I} {buffer} (passes fit) z = made fit (outputs (converted_text I) buffer) z

pub success : (sheet buffer : List ℕ) (I : Instance) → read_instance sheet ≡ accepted I → (convert sheet buffer).number ≡ 0 → Success I (convert sheet buffer)
success sheet buffer I e = rw (convert-accepted sheet buffer I e) (succeeded (or-too-many I buffer (output (converted_text I) buffer)))

pub converted_reads : ConvertedReads
converted_reads sheet buffer I e z =
    let s = success sheet buffer I e z in
    let r = converted-read I ((sheet_exact sheet I).0 e).0 s.fit in
    rw s.text
    (record {
      is_sheet = r;
      older = reads_older (converted_text I) (converted I) r (converted-idle I);
      no_work = converted-idle I;
      same_answers = same_older (converted_text I) (converted I) r (converted-idle I);
    })

-- ---- the order's theorem

pub left-accepted : (sheet timetable : List ℕ) (I : Instance) (claim : Claim) → read_instance sheet ≡ accepted I → Convertible I
    → mark (converted_text I) timetable ≡ accepted_with claim → LeftAccepted sheet timetable I claim
unfolding true_claim
left-accepted sheet timetable I claim e fit v =
    let W = ((sheet_exact sheet I).0 e).0 in
    let WK = converted-formed I W fit in
    let x = (marker_exact (converted_text I) timetable (converted I) (converted-read I W fit) claim).0 v in
    let P = x.schedule in
    record {
      schedule = P;
      is_read = (timetable-exact (converted I) WK timetable P claim).1 (x.spellable, x.due_lines);
      verdict = (marker_exact sheet (stripped_text I P) I e (true_claim I (stripped I P))).1 (record {
        schedule = stripped I P;
        spellable = left-spelled I P claim W WK x.spellable x.valid;
        due_lines = refl {a = stripped_text I P};
        valid = left-valid I P claim W WK x.spellable x.valid;
      });
      span = left-span I P claim W WK x.spellable x.valid;
      blue_peak = left-blue I P claim W WK x.spellable x.valid;
      red_peak = left-red I P claim W WK x.spellable x.valid;
    }

pub stripped_accepted : StrippedAccepted
stripped_accepted sheet buffer timetable I claim e z v =
    let s = success sheet buffer I e z in
    left-accepted sheet timetable I claim e s.fit (rw s.text at v)

-- ---- and the other way round

pub extended_accepted : ExtendedAccepted
extended_accepted sheet buffer timetable I claim e z v =
    let s = success sheet buffer I e z in
    let W = ((sheet_exact sheet I).0 e).0 in
    let WK = converted-formed I W s.fit in
    let x = (marker_exact sheet timetable I e claim).0 v in
    let P = x.schedule in
    record {
      schedule = P;
      is_read = (timetable-exact I W timetable P claim).1 (x.spellable, x.due_lines);
      verdict =
          rw s.text
          ((marker_exact (converted_text I) (schedule_text (converted I) (extended I P) claim) (converted I) (converted-read I W s.fit) claim).1 (record {
            schedule = extended I P;
            spellable = extended-spelled I P claim W WK x.spellable x.valid;
            due_lines = refl {a = schedule_text (converted I) (extended I P) claim};
            valid = extended-valid I P claim W WK x.spellable x.valid;
          }));
    }

-- ---- a sheet without W

idle-same : (l : List Task) (d : Task) → ((i : ℕ) → (get_or l i d).work ≡ 0) → map without_work l ≡ l
idle-same [] d h = refl
idle-same (a ∷ l) d h =
    let e : without_work a ≡ a = ap (λ w. record { on_blue = a.on_blue; on_red = a.on_red; work = w }) (sym (h 0)) in
    rw (e, idle-same l d (λ i. h (suc i)))

unshifted : (l : List File) → map (shifted_by 0) l ≡ l
unshifted [] = refl
unshifted (f ∷ l) =
    let e : shifted_by 0 f ≡ f = ap₂ (λ i j. record { maker = i; reader = j; size = f.size; move_time = f.move_time }) (zero-add f.maker) (zero-add f.reader) in
    rw (e, unshifted l)

module _ (I : Instance) (n : NoWork I) where
  none-added : added_count I ≡ 0
  none-added = length-where (has_work I) (task_count I) ∙ sum-zero (task_count I) _ (λ i l. rw (n i))

  same-job : converted I ≡ I
  unfolding converted list_below
  same-job = rw (none-added, idle-same I.tasks _ n, unshifted I.files)

  sheet-fits : WellFormed I → {buffer : List ℕ} {a b : Output} → OrTooMany I buffer a b → b ≡ a
  sheet-fits W (by41 l) = absurd (omega (arith, none-added, W.tasks.most))
  sheet-fits W (by42 t l) = absurd (omega (arith, none-added, W.files))
  sheet-fits W (passes fit) = refl

pub same_sheet : SameSheet
same_sheet sheet buffer I e n =
    let x = (sheet_exact sheet I).0 e in
    let text : converted_text I ≡ sheet = ap instance_text (same-job I n) ∙ sym x.1 in
    convert-accepted sheet buffer I e ∙ sheet-fits I n x.0 (or-too-many I buffer (output (converted_text I) buffer))
    ∙ ap (λ t. output t buffer) text
