-- The board that a planner's staircases go by.
use Rattle.std.specs.Prelude.{◌≡◌}
use Rattle.rules.specs.declared.Board.{Board}
use Rattle.rules.specs.declared.Side.{Side}
use Rattle.rules.specs.Limits.{memory_limits}
use Rattle.rules.specs.Model.{Instance}
use Rattle.rules.specs.Promises.{Ample}
use Rattle.rules.specs.Scheduling.{aware, plain, Memory, Planner, memory_of}

-- a side with the greatest limit
abbrev pub loosened_side : Side → Side
loosened_side s = record { processors = s.processors; limit = memory_limits.most }

-- the sheet's board for a memory-aware planner; for a plain one, which looks at no limit, the same board with the greatest limits
abbrev pub board_by : Memory → Board → Board
board_by aware b = b
board_by plain b = record { blue = loosened_side b.blue; red = loosened_side b.red }

-- a plain planner goes by limits that all files and all W fit
abbrev pub Suited : Planner → Instance → Type 0
Suited R I = memory_of R ≡ plain → Ample I
