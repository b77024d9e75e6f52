-- A buffer as long as a text may be is long enough for an answer.
use Prim.Native.Nat.{ℕ, ◌≤◌}
use mathlib.Core.List.{List}
use mathlib.Core.Path.{◌≡◌, refl, sym, ap, subst}
use native.Mathlib.Omega.{arith}
use lib.ListN.{length}
use Rattle.rules.specs.Limits.{max_text}
use Rattle.rules.specs.Model.{Instance}
use Rattle.rules.specs.InstanceText.{InstanceRead, refused, accepted, read_instance}
use Rattle.rules.specs.Conversion.{Output, converted_text, stripped_text, output, convert}
use Rattle.rules.specs.Stripping.{strip}
use Rattle.rules.specs.ConversionPromises.{Convertible}
use Rattle.rules.proofs.FaultLaws.{sheet-numbers}
use Rattle.rules.proofs.SheetLaws.{sheet_exact}
use Rattle.rules.proofs.ConvertLaws.{Outputs, short, fits, outputs, OrTooMany, by41, by42, passes, or-too-many, convert-refused, convert-accepted}
use Rattle.rules.proofs.StripLaws.{Strips, by_mark, leaves, strips, strip-refused, strip-accepted}
use Rattle.std.specs.Prelude.{Result, Ok, Err}
use Rattle.rules.specs.Scheduling.{Planner}
use Rattle.rules.specs.Calls.{Answer}
use Rattle.rules.specs.CallsExact.{Planned, by_text, by21, by31, by0}
use Rattle.rules.specs.declared.refusal.Refusal.{Refusal}
use Rattle.rules.specs.declared.refusal.Refusal.TheVariants.{Short}
use Rattle.rules.specs.Refusals.{refusal_number}
use Rattle.plan_text.specs.Answers.{number_of, place_of, answer_of}
use Rattle.convert_text.specs.Answers.{as_output}
use Rattle.frames.specs.ConversionDemands.{ConverterDemands, StripperDemands}
use Rattle.console.specs.LongEnough.{LongEnough}

-- ---- the converter's and the stripper's: a text that was written lies in the buffer

-- on success the text lies in the buffer
abbrev Inside : List ℕ → Output → Type 0
Inside buffer a = a.number ≡ 0 → a.place ≤ length buffer

output-inside : {text buffer : List ℕ} {a : Output} → Outputs text buffer a → Inside buffer a
output-inside (short h) z = omega arith
output-inside (fits h) z = h

too-many-inside : {I : Instance} {buffer : List ℕ} {a b : Output} → (Convertible I → Inside buffer a) → OrTooMany I buffer a b → Inside buffer b
too-many-inside s (by41 l) z = omega arith
too-many-inside s (by42 t l) z = omega arith
too-many-inside s (passes fit) z = s fit z

strips-inside : {I : Instance} {paper buffer : List ℕ} {a : Output} → Strips I paper buffer a → Inside buffer a
strips-inside (by_mark n k t m) z = omega (arith, t.0)
strips-inside {I} {buffer = buffer} (leaves x) z = output-inside (outputs (stripped_text I x.schedule) buffer) z

convert-inside : (sheet buffer : List ℕ) → Inside buffer (convert sheet buffer)
convert-inside sheet buffer = go (read_instance sheet) refl
  where
    go : (r : InstanceRead) → read_instance sheet ≡ r → Inside buffer (convert sheet buffer)
    go (refused w k) e = rw (convert-refused sheet buffer w k e) (λ z. omega (arith, sheet-numbers w))
    go (accepted I) e =
        rw (convert-accepted sheet buffer I e)
        (too-many-inside (λ fit. output-inside (outputs (converted_text I) buffer)) (or-too-many I buffer (output (converted_text I) buffer)))

strip-inside : (sheet paper buffer : List ℕ) → Inside buffer (strip sheet paper buffer)
strip-inside sheet paper buffer = go (read_instance sheet) refl
  where
    go : (r : InstanceRead) → read_instance sheet ≡ r → Inside buffer (strip sheet paper buffer)
    go (refused w k) e = rw (strip-refused sheet paper buffer w k e) (λ z. omega (arith, sheet-numbers w))
    go (accepted I) e =
        rw (strip-accepted sheet paper buffer I e)
        (too-many-inside (λ fit. strips-inside (strips I paper buffer ((sheet_exact sheet I).0 e).0 fit)) (or-too-many I buffer _))

planned-inside : {R : Planner} {sheet buffer : List ℕ} {a : Answer} → Planned R sheet buffer a → a.number ≡ 0 → a.place ≤ length buffer
planned-inside (by_text w k e) z = omega (arith, sheet-numbers w)
planned-inside (by21 I e k t o) z = omega arith
planned-inside (by31 I e P t o l) z = omega arith
planned-inside (by0 I e P t o l) z = l

-- of the answer's type
by-number : (w : Result ℕ Refusal) {out : List ℕ} → (number_of w ≡ 0 → place_of w ≤ length out) → (number_of w ≡ 31 → ⊥) → LongEnough w out
by-number (Ok n) h s = record { within = h refl; not_short = λ k e. cc }
by-number (Err r) h s = record { within = tt; not_short = λ k e. let q : r ≡ Short k = cc in s (ap refusal_number q) }

module _ (buffer out : List ℕ) (a : Result ℕ Refusal) (h : max_text ≤ length buffer) (l : length out ≡ length buffer) where
  pub long-enough-sheet : (sheet : List ℕ) → as_output a out ≡ convert sheet buffer → ConverterDemands sheet buffer (as_output a out) → LongEnough a out
  long-enough-sheet sheet e d = by-number a
      (λ z. let i = subst (λ (x : Output). Inside buffer x) (sym e) (convert-inside sheet buffer) in omega (arith, i z, l)) (d.roomy h)

  pub long-enough-left : (sheet paper : List ℕ) → as_output a out ≡ strip sheet paper buffer → StripperDemands sheet paper buffer (as_output a out)
      → LongEnough a out
  long-enough-left sheet paper e d = by-number a
      (λ z. let i = subst (λ (x : Output). Inside buffer x) (sym e) (strip-inside sheet paper buffer) in omega (arith, i z, l)) (d.roomy h)

  pub long-enough-plan : {R : Planner} {sheet : List ℕ} {trials : ℕ} → Planned R sheet buffer (answer_of a trials out)
      → (max_text ≤ length buffer → number_of a ≡ 31 → ⊥) → LongEnough a out
  long-enough-plan p d = by-number a (λ z. let i = planned-inside p z in omega (arith, i, l)) (d h)
