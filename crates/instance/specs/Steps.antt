-- What the first line gives, and what adding a line gives, as the rules have it.
use Rattle.std.specs.Prelude.{[], Result, Ok, Err}
use Rattle.rules.specs.Model.{Instance}
use Rattle.rules.specs.BoardType.{side_from}
use Rattle.rules.specs.Text.{Reading, wrong, right}
use Rattle.rules.specs.Refusals.{as_fault}
use Rattle.rules.specs.declared.refusal.Fault.{Fault}
use Rattle.rules.specs.declared.Board.{Board}
use Rattle.model.specs.Layout.{instance_with}
use Rattle.model.specs.declared.layout.Numbers.{Numbers}

-- the instance of a board, without a task or a file
abbrev pub board_alone : Board → Instance
board_alone b = record { blue_side = side_from b.blue; red_side = side_from b.red; tasks = []; files = [] }

abbrev pub as_start : Result Board Fault → Reading Instance
as_start (Ok b) = right (board_alone b)
as_start (Err w) = wrong (as_fault w)

-- a step on a board, with the numbers that it left
abbrev pub as_step : Board → Result Unit Fault → Numbers → Reading Instance
as_step b (Ok u) xs = right (instance_with b xs)
as_step b (Err w) xs = wrong (as_fault w)
