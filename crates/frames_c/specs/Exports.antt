-- The numbers that an exported call puts into the array lent for them.
use Rattle.std.specs.Prelude.{ℕ, List, [], ◌∷◌}
use Rattle.rules.specs.Validity.{Verdict}
use Rattle.rules.specs.Calls.{Answer}
use Rattle.rules.specs.Conversion.{Output}
use Rattle.rules.specs.Simulation.{Simulation, number_of, place_of, left_of, span_of}

abbrev pub verdict_numbers : Verdict → List ℕ
verdict_numbers v = v.number ∷ v.place ∷ v.span ∷ v.blue_peak ∷ v.red_peak ∷ []

abbrev pub answer_numbers : Answer → List ℕ
answer_numbers a = a.number ∷ a.place ∷ a.trials ∷ []

abbrev pub output_numbers : Output → List ℕ
output_numbers a = a.number ∷ a.place ∷ []

-- number, place, 1 if steps are left, span, steps made, time
abbrev pub simulation_numbers : Simulation → List ℕ
simulation_numbers a =
    number_of a.progress ∷ place_of a.progress ∷ left_of a.progress ∷ span_of a.progress ∷ a.made ∷ a.state.time ∷ []
