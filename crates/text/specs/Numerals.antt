-- What is read at the front of a text that starts with digits.
use Rattle.std.specs.Prelude.{ℕ, ◌≤◌, ◌≡◌, true, List, length}
use Rattle.rules.specs.Limits.{max_digits}
use Rattle.rules.specs.Text.{digits_of, numeral, value_from}

-- the digits are n, and v is their sum by places
pub record Summed (text : List ℕ) (v n : ℕ) : Type 0 where
  pub few : n ≤ max_digits
  pub size : n ≡ length (digits_of text)
  pub value : v ≡ value_from 0 (digits_of text)

-- the digits spell the number v, and are n
pub record Spelled (text : List ℕ) (v n : ℕ) : Type 0 where
  pub is_numeral : numeral (digits_of text) ≡ true
  pub size : n ≡ length (digits_of text)
  pub value : v ≡ value_from 0 (digits_of text)
