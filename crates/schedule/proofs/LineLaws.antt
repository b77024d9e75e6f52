-- One line: the form that it has, and its numbers in their ranges.
use Rattle.model.specs.Layout.{instance_of}
use Prim.Native.Nat.{ℕ, ◌+◌, ◌≤◌, ◌<◌}
use mathlib.Core.Path.{◌≡◌, refl, ap}
use mathlib.Core.List.{List, [], ◌∷◌}
use mathlib.Core.Option.{none, some}
use native.Mathlib.Omega.{arith}
use lib.ListN.{length}
use Rattle.rules.specs.Model.{Instance, processor_count}
use Rattle.rules.specs.Text.{Fault, due, ascii, ended, unended, lines_of, wrong, right, malformed}
use Rattle.rules.specs.ScheduleText.{ScheduleLine, run_form, move_form, claim_form, as_run, as_move, as_claim, schedule_line_by, schedule_line}
use Rattle.rules.proofs.Tests.{by_order}
use Rattle.text.specs.FirstLine.{first_line}
use Rattle.text.specs.Cut.{scan_ended, Cut}
use Rattle.text.specs.Due.{first_says, Took}
use Rattle.text.proofs.FirstLineLaws.{no_line, line-within, line-ended, line-unended}
use Rattle.text.proofs.CutLaws.{ended_some, ended-none, other-form, cut-lines, cut-left}
use Rattle.model.specs.declared.job.Job.{Job}
use Rattle.model.specs.Jobs.{instance_in}

-- the numbers of a board's processors
module _ (j : Job) where
  pub processor-count : processor_count (instance_in j) ≡ j.board.blue.processors + j.board.red.processors
  unfolding instance_of
  processor-count = refl

-- ---- the form that a text's first line has

-- the forms' words, and what follows each
abbrev run_word : List ℕ
run_word = ascii "(run "

abbrev move_word : List ℕ
move_word = ascii "(move "

abbrev claim_word : List ℕ
claim_word = ascii "(claim "

abbrev three : List ℕ
three = ascii "# # #)"

module _ (text vs : List ℕ) where
  move-not-run : scan_ended move_form text ≡ some vs → scan_ended run_form text ≡ none
  move-not-run = other-form move_word three run_word three text vs refl refl refl

  claim-not-run : scan_ended claim_form text ≡ some vs → scan_ended run_form text ≡ none
  claim-not-run = other-form claim_word three run_word three text vs refl refl refl

  claim-not-move : scan_ended claim_form text ≡ some vs → scan_ended move_form text ≡ none
  claim-not-move = other-form claim_word three move_word three text vs refl refl refl

-- what the line says by its form
module _ (I : Instance) (text vs : List ℕ) where
  says-run : scan_ended run_form text ≡ some vs → as_run I vs ≡ schedule_line I (ended (first_line text))
  unfolding schedule_line_by
  says-run e = rw (ended_some run_form text vs e).scanned

  says-move : scan_ended move_form text ≡ some vs → as_move vs ≡ schedule_line I (ended (first_line text))
  unfolding schedule_line_by
  says-move e =
      let f = ended_some move_form text vs e in
      rw (ended-none run_form text (move-not-run text vs e) f.short, f.scanned)

  says-claim : scan_ended claim_form text ≡ some vs → as_claim vs ≡ schedule_line I (ended (first_line text))
  unfolding schedule_line_by
  says-claim e =
      let f = ended_some claim_form text vs e in
      rw (ended-none run_form text (claim-not-run text vs e) f.short, ended-none move_form text (claim-not-move text vs e) f.short, f.scanned)

-- ---- the line that was cut
module _ (I : Instance) (form text : List ℕ) {line found rest : List ℕ} (r : Cut (scan_ended form text) text line found rest) where
  pub cut-right : (p : ScheduleLine) → right p ≡ schedule_line I (ended (first_line text)) → Took (schedule_line I) some text rest p
  cut-right p e =
      record {
        line = ended line;
        lines = cut-lines form text r;
        due = rw (r.first, ← e);
        shorter = omega (arith, cut-left form text r);
      }

  pub cut-wrong : (w : Fault) → wrong w ≡ schedule_line I (ended (first_line text)) → due some (first_says (schedule_line I) (lines_of text)) ≡ wrong w
  cut-wrong w e = rw (cut-lines form text r, r.first, ← e)

-- what its numbers say
module _ (I : Instance) (text : List ℕ) {line found rest : List ℕ} where
  pub run-says : (r : Cut (scan_ended run_form text) text line found rest) → as_run I found ≡ schedule_line I (ended (first_line text))
  run-says r = rw r.stored (says-run I text r.values r.scanned)

  pub move-says : (r : Cut (scan_ended move_form text) text line found rest) → as_move found ≡ schedule_line I (ended (first_line text))
  move-says r = rw r.stored (says-move I text r.values r.scanned)

  pub claim-says : (r : Cut (scan_ended claim_form text) text line found rest) → as_claim found ≡ schedule_line I (ended (first_line text))
  claim-says r = rw r.stored (says-claim I text r.values r.scanned)

-- a line without its LF, or none, and a line of no form
unended-unread : (I : Instance) (l : List ℕ) → schedule_line I (unended l) ≡ wrong malformed
unfolding schedule_line_by
unended-unread I l = refl

unended-says : (I : Instance) (t : List ℕ) → length t ≤ length (first_line t) → first_says (schedule_line I) (lines_of t) ≡ wrong malformed
unended-says I [] h = rw no_line
unended-says I (b ∷ bs) h = rw (line-unended (b ∷ bs) (omega arith) (omega (arith, line-within (b ∷ bs)))) (unended-unread I (b ∷ bs))

module _ (I : Instance) (text : List ℕ) (r : scan_ended run_form text ≡ none) (m : scan_ended move_form text ≡ none) (c : scan_ended claim_form text ≡ none) where
  ended-unread : length (first_line text) < length text → schedule_line I (ended (first_line text)) ≡ wrong malformed
  unfolding schedule_line_by
  ended-unread h = rw (ended-none run_form text r h, ended-none move_form text m h, ended-none claim_form text c h)

  pub no-form : due some (first_says (schedule_line I) (lines_of text)) ≡ wrong malformed
  no-form =
      ap (due some)
      (by_order (length (first_line text)) (length text)
      (λ h. rw (line-ended text h) (ended-unread h))
      (λ h. unended-says I text h))
