-- How long a line of a timetable can be.
use Rattle.std.specs.Prelude.{ℕ, ◌+◌, ◌*◌, length}
use Rattle.rules.specs.ScheduleText.{claim_form}

-- a number of 64 bits has at most 20 digits, no form has more signs than the claim's, and LF is one byte
abbrev pub longest : ℕ
longest = 20 * length claim_form + 1
