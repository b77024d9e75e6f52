-- A due line, taken from the front of a text.
use Rattle.std.specs.Prelude.{ℕ, ◌<◌, ◌≡◌, List, [], ◌∷◌, length, Result, Ok, Err}
use Rattle.std.proofs.Math.Option.{Option}
use Rattle.rules.specs.Text.{Line, lines_of, Reading, wrong, right, malformed, due}
use Rattle.rules.specs.Refusals.{as_fault}
use Rattle.rules.specs.declared.refusal.Fault.{Fault}
use Rattle.text.specs.declared.lines.Taken.{Taken}

-- what the first of some lines says; an absent line is malformed
abbrev pub first_says : {A : Type 0} → (Line → Reading A) → List Line → Reading A
first_says says [] = wrong malformed
first_says says (l ∷ ls) = says l

-- the first line of a text is due, and b is taken from it; `rest` is the text behind it
pub record Took {A B : Type 0} (says : Line → Reading A) (f : A → Option B) (text rest : List ℕ) (b : B) : Type 0 where
  pub line : Line
  pub lines : lines_of text ≡ line ∷ lines_of rest
  pub due : due f (says line) ≡ right b
  pub shorter : length rest < length text

-- the first line is taken, or it is refused with its fault
abbrev pub TakesDue : {A B C : Type 0} → (Line → Reading A) → (A → Option B) → (C → B) → List ℕ → Result (Taken C) Fault → Type 0
TakesDue says f as_b text (Ok t) = Took says f text t.rest.now (as_b t.value)
TakesDue says f as_b text (Err w) = due f (first_says says (lines_of text)) ≡ wrong (as_fault w)
