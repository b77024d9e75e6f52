-- The part of a text before its first LF, and its lines counted from 0.
use Rattle.std.specs.Prelude.{ℕ, ◌≤◌, ◌≡◌, true, false, List, [], ◌∷◌, ◌++◌, eqb, length, get_or, take, drop}
use Rattle.rules.specs.Text.{unended, bytes_of, lines_of}

-- 10 is LF
unfoldable pub first_line : List ℕ → List ℕ
first_line [] = []
first_line (b ∷ bs) = elim (eqb b 10) [ true ↦ [] | false ↦ b ∷ first_line bs ]

-- line n of a text without its LF; empty where there is none
abbrev pub line_from : List ℕ → ℕ → List ℕ
line_from bs n = bytes_of (get_or (lines_of bs) n (unended []))

-- the first n elements of l are of the part at its front that f gives
pub record Passed (f : List ℕ → List ℕ) (l : List ℕ) (n : ℕ) : Type 0 where
  pub within : n ≤ length l
  pub left : f l ≡ take n l ++ f (drop n l)
