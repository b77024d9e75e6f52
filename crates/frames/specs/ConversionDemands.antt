-- The demands of Order 7, and those of the stripper, as clauses of the public contracts: what rules' promises say of the answer at hand.
use Rattle.std.specs.Prelude.{ℕ, ◌≤◌, ◌≡◌, ◌↔◌, List, length, take}
use Rattle.rules.specs.Limits.{max_text}
use Rattle.rules.specs.Model.{Instance, NoWork}
use Rattle.rules.specs.Validity.{Claim, accepted_with}
use Rattle.rules.specs.Text.{Fault, in_sheet, fault_number}
use Rattle.rules.specs.InstanceText.{accepted, read_instance}
use Rattle.rules.specs.Calls.{mark}
use Rattle.rules.specs.SheetFaults.{SheetFault}
use Rattle.rules.specs.Conversion.{Output, unwritten, output}
use Rattle.rules.specs.ConversionPromises.{ConvertedShape, ConvertedOrRefused, ConvertedExactly, ReadsWithoutWork, LeftAccepted, ExtendedThere}
use Rattle.rules.specs.ConversionPromises.{StrippedLaw}
use Rattle.rules.specs.Stripping.{StrippedOrRefused, StrippedExactly}

-- what the converter's answer a to a board sheet promises, with the bytes that the lent buffer then holds
pub record ConverterDemands (sheet buffer : List ℕ) (a : Output) : Type 0 where
  -- success, or one refusal that is listed for the converter, with the buffer as it was. Not: the first lines written before 31
  pub ends : ConvertedOrRefused buffer a
  -- 1 to 4 at k exactly if the sheet has that fault first, at line k. Not: one fixed number for every sheet refused
  pub sheet_fault : (w : Fault) (k : ℕ) → (a ≡ unwritten (fault_number in_sheet w) k buffer) ↔ SheetFault sheet w k
  -- for an accepted sheet: 41, 42, 31 and success exactly by the counts and the text's length, with what was written. Not: every sheet refused; 42 before 41
  pub exactly : (I : Instance) → read_instance sheet ≡ accepted I → ConvertedExactly I buffer a
  -- the converted job in words. Not: limits of 0; the added tasks last
  pub shape : (I : Instance) → read_instance sheet ≡ accepted I → ConvertedShape I
  -- a buffer as long as a text may be is never too short. Not: 31 whatever the buffer
  pub roomy : max_text ≤ length buffer → a.number ≡ 31 → ⊥
  -- a sheet without W comes out byte for byte. Not: its lines in another order
  pub same : (I : Instance) → read_instance sheet ≡ accepted I → NoWork I → a ≡ output sheet buffer
  -- what was written is the converted job's sheet, also for a reader that does not know W, and has the same answers from both. Not: a W left on
  pub reads : (I : Instance) → read_instance sheet ≡ accepted I → a.number ≡ 0 → ReadsWithoutWork I (take a.place a.buffer)
  -- a timetable accepted for it, stripped, is accepted for the original. Not: an added file of size 0
  pub stripped : (timetable : List ℕ) (I : Instance) (claim : Claim) → read_instance sheet ≡ accepted I → a.number ≡ 0
      → mark (take a.place a.buffer) timetable ≡ accepted_with claim → LeftAccepted sheet timetable I claim
  -- and one accepted for the original is, with the added runs, accepted for it, with the same span and peaks. Not: a sheet for which nothing is accepted
  pub extended : (timetable : List ℕ) (I : Instance) (claim : Claim) → read_instance sheet ≡ accepted I → a.number ≡ 0
      → mark sheet timetable ≡ accepted_with claim → ExtendedThere (take a.place a.buffer) timetable I claim

-- what the stripper's answer a to a board sheet and a timetable of the converted one promises, with the bytes that the lent buffer then holds
pub record StripperDemands (sheet paper buffer : List ℕ) (a : Output) : Type 0 where
  -- success, or one refusal of the converter's or of the marker's, with the buffer as it was. Not: a number of its own
  pub ends : StrippedOrRefused buffer a
  -- 1 to 4 at k exactly if the sheet has that fault first, at line k. Not: one fixed number for every sheet refused
  pub sheet_fault : (w : Fault) (k : ℕ) → (a ≡ unwritten (fault_number in_sheet w) k buffer) ↔ SheetFault sheet w k
  -- for an accepted sheet: 41, 42, 11 to 18 as the marker answers on the converted sheet, 31 and success, each exactly where it comes. Not: every timetable
  -- refused; the claim kept
  pub exactly : (I : Instance) → read_instance sheet ≡ accepted I → StrippedExactly I paper buffer a
  -- what is left has the old runs and moves under their old numbers. Not: the added runs kept
  pub left : StrippedLaw
  -- a buffer as long as a text may be is never too short. Not: 31 whatever the buffer
  pub roomy : max_text ≤ length buffer → a.number ≡ 31 → ⊥
  -- what was written is accepted for the original. Not: a claim of the converted timetable. Alone it is met by a stripper that never succeeds
  pub accepted : a.number ≡ 0 → (claim : Claim) × (mark sheet (take a.place a.buffer) ≡ accepted_with claim)
