-- The number that an argument spells.
use Rattle.std.specs.Prelude.{ℕ, ◌^◌, cond, ◌&&◌, List, ltb, length, Option, Some, None}
use Rattle.std.specs.Char.{is_ascii_digit}
use Rattle.std.specs.List.{list_all}
use Rattle.rules.specs.Text.{value_from}

-- digits alone, one or more, of a number below 2 ^ 64
abbrev pub number_of : List ℕ → Option ℕ
number_of s = cond (list_all is_ascii_digit s && ltb 0 (length s) && ltb (value_from 0 s) (2 ^ 64)) (Some (value_from 0 s)) None
