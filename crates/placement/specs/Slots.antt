-- The processors of a colour among the last finishes.
use Rattle.std.specs.Prelude.{ℕ, ◌+◌, List, get_or, set}
use Rattle.rules.specs.Model.{Instance}
use Rattle.rules.specs.Model.{Colour as RulesColour}
use Rattle.rules.specs.Scheduling.{Partial, slot_of, chosen_processor, finish_on}
use Rattle.rules.specs.declared.Board.{Board}
use Rattle.model.specs.declared.colour.Colour.{Colour}
use Rattle.model.specs.Colours.{by_colour}

-- where the colour's processor p stands, blue ones first
abbrev pub slot_in : Board → Colour → ℕ → ℕ
slot_in b x p = by_colour x p (b.blue.processors + p)

-- its last finish
abbrev pub last_in : Board → List ℕ → Colour → ℕ → ℕ
last_in b last x p = get_or last (slot_in b x p) 0

-- the last finishes with a task placed on the colour at the start: its finish at the place of the processor chosen, and the others as they were
abbrev pub with_finish : Instance → Partial → ℕ → RulesColour → ℕ → List ℕ → List ℕ
with_finish I Q i c start last = set last (slot_of I c (chosen_processor I Q c start)) (finish_on I i c start)
