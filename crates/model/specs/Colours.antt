-- The code's colour, as the rules have it.
use Rattle.std.specs.Prelude.{ℕ}
use Rattle.rules.specs.Model as Rules
use Rattle.model.specs.declared.colour.ByColour.{ByColour}
use Rattle.model.specs.declared.colour.Colour.{Colour}
use Rattle.model.specs.declared.colour.Colour.TheVariants.{Blue, Red}

abbrev pub as_colour : Colour → Rules.Colour
as_colour Blue = Rules.blue
as_colour Red = Rules.red

-- the colour's own of two numbers
abbrev pub by_colour : Colour → ℕ → ℕ → ℕ
by_colour Blue m n = m
by_colour Red m n = n

-- the same of two values
abbrev pub own : {T : Type 0} → Colour → ByColour T → T
own Blue x = x.blue
own Red x = x.red
