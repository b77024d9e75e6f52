-- The columns of a line.
use Rattle.std.specs.Prelude.{ℕ}

abbrev pub width : ℕ
width = 80

-- a number of 64 bits has at most so many digits
abbrev pub most_digits : ℕ
most_digits = 20

-- where processors and totals stand in the rows of a step
abbrev pub row_column : ℕ
row_column = 19

-- a memory's limit takes at most so many, the digits of the greatest M, and its total too
abbrev pub limit_columns : ℕ
limit_columns = 9

-- a file takes at most so many: two task numbers, its size, and whether it is moving
abbrev pub file_columns : ℕ
file_columns = 22
