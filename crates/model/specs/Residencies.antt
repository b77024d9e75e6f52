-- The residencies of a memory, and how the code answers them: of each number below n a hold and an amount.
use Rattle.std.specs.Prelude.{ℕ, ◌<◌, ◌≡◌}
use Rattle.rules.specs.Model.{Colour, Instance, work_at, size_at, Schedule}
use Rattle.rules.specs.Residency.{hold_of, work_of}
use Rattle.rules.specs.Changes.{Residency}
use Rattle.model.specs.declared.residency.Hold as Code
use Rattle.model.specs.declared.colour.ByColour.{ByColour}
use Rattle.model.specs.declared.colour.Colour.{Colour as CodeColour}
use Rattle.model.specs.Colours.{own}
use Rattle.model.specs.Holds.{as_hold}

-- the two kinds of `residencies`: those of the files, and those of the working memory
abbrev pub file_residency : Instance → Schedule → Colour → ℕ → Residency
file_residency I P c k = record { hold = hold_of I P c k; size = size_at I k }

abbrev pub work_residency : Instance → Schedule → Colour → ℕ → Residency
work_residency I P c i = record { hold = work_of I P c i; size = work_at I i }

-- what is answered of each k below n is residency k of g
abbrev pub Gives : (ℕ → Code.Hold × ℕ → Type 0) → ℕ → (ℕ → Residency) → Type 0
Gives answer n g = (k : ℕ) (r : Code.Hold × ℕ) → k < n → answer k r → (as_hold r.0 ≡ (g k).hold) × (r.1 ≡ (g k).size)

-- the same of both memories' holds, by the one in the memory of the colour
abbrev pub GivesIn : CodeColour → (ℕ → ByColour Code.Hold × ℕ → Type 0) → ℕ → (ℕ → Residency) → Type 0
GivesIn c answer n g = (k : ℕ) (r : ByColour Code.Hold × ℕ) → k < n → answer k r → (as_hold (own c r.0) ≡ (g k).hold) × (r.1 ≡ (g k).size)
