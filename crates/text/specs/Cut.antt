-- A line cut from the front of a text by a form.
use Rattle.std.specs.Prelude.{ℕ, ◌+◌, ◌<◌, ◌≡◌, Bool, true, not, cond, ◌&&◌, List, [], ◌∷◌, ltb, eqb, length, get_or, drop}
use Rattle.std.proofs.Math.Option.{Option, none, some}
use Rattle.rules.specs.Text.{is_number, scan}
use Rattle.text.specs.FirstLine.{first_line}

-- signs without LF, and signs without LF and #
abbrev pub lineless : List ℕ → Bool
lineless [] = true
lineless (s ∷ form) = not (eqb s 10) && lineless form

abbrev pub plain : List ℕ → Bool
plain [] = true
plain (s ∷ word) = not (is_number s) && not (eqb s 10) && plain word

-- a form in two parts: a word, and what follows it
pub record Parted (word form : List ℕ) : Type 0 where
  pub some : 0 < length word
  pub plain : plain word ≡ true
  pub lineless : lineless form ≡ true

-- the numbers of a text's first line, if LF ends it and it has the form
unfoldable pub scan_ended : List ℕ → List ℕ → Option (List ℕ)
scan_ended form text = cond (ltb (length (first_line text)) (length text)) (scan form (first_line text)) none

-- a line that does not have the form
abbrev pub nothing : Option (List ℕ)
nothing = none

-- the first four numbers, 0 for each that the form does not have
abbrev pub first_four : List ℕ → List ℕ
first_four vs = get_or vs 0 0 ∷ get_or vs 1 0 ∷ get_or vs 2 0 ∷ get_or vs 3 0 ∷ []

-- what a form finds: the text's first line, of its numbers the first four, and the text behind the line and its LF
pub record Cut (numbers : Option (List ℕ)) (text line found rest : List ℕ) : Type 0 where
  pub first : line ≡ first_line text
  pub behind : rest ≡ drop (length line + 1) text
  pub values : List ℕ
  pub scanned : numbers ≡ some values
  pub stored : found ≡ first_four values
