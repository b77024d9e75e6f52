-- Bytes shown by printable ASCII.
use Rattle.std.specs.Prelude.{ℕ, Bool, cond, ◌&&◌, List, [], ◌∷◌, ◌++◌, leb, eqb}
use Rattle.io.specs.Digits.{last_digits}

-- a space to `~`
abbrev pub printable : ℕ → Bool
printable b = leb 32 b && leb b 126

-- a printable byte as it is, but `\` as `\\`; any other as `\x` and two hexadecimal digits
abbrev pub escaped_byte : ℕ → List ℕ
escaped_byte b = cond (printable b) (cond (eqb b 92) (92 ∷ 92 ∷ []) (b ∷ [])) (92 ∷ 120 ∷ last_digits 16 2 b)

unfoldable pub escaped : List ℕ → List ℕ
escaped [] = []
escaped (b ∷ rest) = escaped_byte b ++ escaped rest
