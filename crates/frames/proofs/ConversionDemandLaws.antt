-- Order 7: an answer that equals its definition keeps the demands; and the answers to a board sheet that is refused.
use Prim.Native.Nat.{ℕ, ◌≤◌}
use mathlib.Core.Path.{◌≡◌, refl, sym, ap, ◌∙◌}
use mathlib.Core.List.{List}
use native.Mathlib.Omega.{arith}
use lib.ListN.{length}
use Rattle.rules.specs.Limits.{max_text}
use Rattle.rules.specs.Model.{Instance}
use Rattle.rules.specs.InstanceText.{InstanceRead as Reading, refused, accepted, read_instance}
use Rattle.rules.specs.Conversion.{Output, converted_text, stripped_text, output, convert_on, convert}
use Rattle.rules.specs.Stripping.{strip_on, strip}
use Rattle.rules.specs.ConversionPromises.{Convertible}
use Rattle.rules.proofs.SheetLaws.{sheet_exact}
use Rattle.rules.proofs.SheetFaultLaws.{sheet_faults}
use Rattle.rules.proofs.FaultLaws.{sheet-numbers}
use Rattle.rules.proofs.ConversionLaws.{shape_law}
use Rattle.rules.proofs.StrippedLaws.{stripped_law}
use Rattle.rules.proofs.ConvertLaws.{Outputs, short, fits, outputs, OrTooMany, by41, by42, passes, or-too-many, convert-refused, convert-accepted}
use Rattle.rules.proofs.ConvertLaws.{convert_refused, convert_exact, convert_ends, converted_short, same_sheet, converted_reads, stripped_accepted, extended_accepted}
use Rattle.rules.proofs.StripLaws.{Strips, by_mark, leaves, strips, strip-refused, strip-accepted, strip_refused, strip_exact, strip_ends, stripped_short, strip_accepted}
use Rattle.std.specs.Prelude.{Err}
use Rattle.rules.specs.declared.refusal.Refusal.{Refusal}
use Rattle.convert_text.specs.Answers.{as_output}
use Rattle.instance.specs.Reads.{IsRefused}
use Rattle.instance.proofs.AcceptedLaws.{of_sheet}
use Rattle.frames.specs.ConversionDemands.{ConverterDemands, StripperDemands}

-- a text that fits wherever any text does is never too long
roomy-output : {text buffer : List ℕ} {a : Output} → length text ≤ max_text → max_text ≤ length buffer → Outputs text buffer a → a.number ≡ 31 → ⊥
roomy-output l room (short h) n = omega arith
roomy-output l room (fits h) n = omega arith

-- ---- the converter

module _ (sheet buffer : List ℕ) where
  convert-roomy : (I : Instance) → read_instance sheet ≡ accepted I → {a : Output} → max_text ≤ length buffer
      → OrTooMany I buffer (output (converted_text I) buffer) a → a.number ≡ 31 → ⊥
  convert-roomy I e room (by41 l) n = omega arith
  convert-roomy I e room (by42 t l) n = omega arith
  convert-roomy I e room (passes fit) n =
      roomy-output (converted_short I ((sheet_exact sheet I).0 e).0 fit) room (outputs (converted_text I) buffer) n

  never-short : max_text ≤ length buffer → (convert sheet buffer).number ≡ 31 → ⊥
  never-short room n = go (read_instance sheet) refl
    where
      go : (r : Reading) → read_instance sheet ≡ r → ⊥
      go (refused w k) e = let q = ap (λ a. a.number) (convert-refused sheet buffer w k e) in omega (arith, sheet-numbers w)
      go (accepted I) e =
          convert-roomy I e room (or-too-many I buffer (output (converted_text I) buffer)) (sym (ap (λ a. a.number) (convert-accepted sheet buffer I e)) ∙ n)

  convert-demands : ConverterDemands sheet buffer (convert sheet buffer)
  convert-demands = record {
    ends = convert_ends sheet buffer;
    sheet_fault = λ w k. (
      (λ e. (sheet_faults sheet w k).0 ((convert_refused sheet buffer w k).0 e)),
      (λ f. (convert_refused sheet buffer w k).1 ((sheet_faults sheet w k).1 f)),
    );
    exactly = convert_exact sheet buffer;
    shape = λ I e. shape_law I;
    roomy = never-short;
    same = same_sheet sheet buffer;
    reads = converted_reads sheet buffer;
    stripped = stripped_accepted sheet buffer;
    extended = extended_accepted sheet buffer;
  }

  pub converter-demands : {a : Output} → a ≡ convert sheet buffer → ConverterDemands sheet buffer a
  converter-demands e = rw e convert-demands

-- ---- the stripper

module _ (sheet paper buffer : List ℕ) where
  strips-roomy : (I : Instance) → read_instance sheet ≡ accepted I → {a : Output} → max_text ≤ length buffer → Strips I paper buffer a → a.number ≡ 31 → ⊥
  strips-roomy I e room (by_mark n k t m) q = omega (arith, t.1)
  strips-roomy I e room (leaves x) q =
      roomy-output (stripped_short I ((sheet_exact sheet I).0 e).0 paper x) room (outputs (stripped_text I x.schedule) buffer) q

  strip-roomy : (I : Instance) → read_instance sheet ≡ accepted I → {a b : Output} → max_text ≤ length buffer → (Convertible I → Strips I paper buffer a)
      → OrTooMany I buffer a b → b.number ≡ 31 → ⊥
  strip-roomy I e room s (by41 l) n = omega arith
  strip-roomy I e room s (by42 t l) n = omega arith
  strip-roomy I e room s (passes fit) n = strips-roomy I e room (s fit) n

  never-short-left : max_text ≤ length buffer → (strip sheet paper buffer).number ≡ 31 → ⊥
  never-short-left room n = go (read_instance sheet) refl
    where
      go : (r : Reading) → read_instance sheet ≡ r → ⊥
      go (refused w k) e = let q = ap (λ a. a.number) (strip-refused sheet paper buffer w k e) in omega (arith, sheet-numbers w)
      go (accepted I) e =
          strip-roomy I e room (strips I paper buffer ((sheet_exact sheet I).0 e).0) (or-too-many I buffer _)
          (sym (ap (λ a. a.number) (strip-accepted sheet paper buffer I e)) ∙ n)

  strip-demands : StripperDemands sheet paper buffer (strip sheet paper buffer)
  strip-demands = record {
    ends = strip_ends sheet paper buffer;
    sheet_fault = λ w k. (
      (λ e. (sheet_faults sheet w k).0 ((strip_refused sheet paper buffer w k).0 e)),
      (λ f. (strip_refused sheet paper buffer w k).1 ((sheet_faults sheet w k).1 f)),
    );
    exactly = strip_exact sheet paper buffer;
    left = stripped_law;
    roomy = never-short-left;
    accepted = strip_accepted sheet paper buffer;
  }

  pub stripper-demands : {a : Output} → a ≡ strip sheet paper buffer → StripperDemands sheet paper buffer a
  stripper-demands e = rw e strip-demands

-- ---- a board sheet that is refused

pub unconverted : (sheet buffer : List ℕ) (e : Refusal) → IsRefused e (read_instance sheet) → as_output (Err e) buffer ≡ convert sheet buffer
unconverted sheet buffer e q = let f = of_sheet sheet e q in rw f.is (sym (convert-refused sheet buffer _ f.line f.refused))

pub unstripped : (sheet paper buffer : List ℕ) (e : Refusal) → IsRefused e (read_instance sheet) → as_output (Err e) buffer ≡ strip sheet paper buffer
unstripped sheet paper buffer e q = let f = of_sheet sheet e q in rw f.is (sym (strip-refused sheet paper buffer _ f.line f.refused))
