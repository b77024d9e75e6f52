-- The code's answer, as the rules have it.
use Rattle.std.specs.Prelude.{ℕ, List, Result}
use Rattle.rules.specs.Conversion.{Output}
use Rattle.rules.specs.declared.refusal.Refusal.{Refusal}
use Rattle.plan_text.specs.Answers.{number_of, place_of}

-- an answer, with the bytes that the lent buffer then holds
abbrev pub as_output : Result ℕ Refusal → List ℕ → Output
as_output r buffer = record { number = number_of r; place = place_of r; buffer = buffer }
