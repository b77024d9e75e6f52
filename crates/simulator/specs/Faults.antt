-- The faults of a tick, as the code asks for them.
use Rattle.std.specs.Prelude.{ℕ, Bool, false, ◌&&◌, ◌||◌, leb, eqb, Option, Some, None}
use Rattle.rules.specs.Count.{any_below}
use Rattle.rules.specs.Model.{Instance, task_count, Schedule, start_at}
use Rattle.rules.specs.Validity.{overlap}
use Rattle.model.specs.declared.residency.FileTimes.{FileTimes}
use Rattle.model.specs.declared.residency.Transfer.{Transfer}
use Rattle.validator.specs.Early.{moves_early, starts_early}

-- task j's run starts by tick t and overlaps task i's
abbrev pub begun_overlaps : Instance → Schedule → ℕ → ℕ → ℕ → Bool
begun_overlaps I P t i j = leb (start_at P j) t && overlap I P i j

-- task i's run overlaps one that starts by tick t
abbrev pub overlaps_begun : Instance → Schedule → ℕ → ℕ → Bool
overlaps_begun I P t i = any_below (task_count I) (begun_overlaps I P t i)

-- and starts at tick t
abbrev pub starts_overlapping : Instance → Schedule → ℕ → ℕ → Bool
starts_overlapping I P t i = eqb (start_at P i) t && overlaps_begun I P t i

-- a move starts at tick n
abbrev pub departs_at : Option Transfer → ℕ → Bool
departs_at (Some m) n = eqb m.departs n
departs_at None n = false

-- by the times of a file: tick n is the start of an early move,
abbrev pub early_move : FileTimes → ℕ → Bool
early_move t n = moves_early t && departs_at t.transfer n

-- of an early reader,
abbrev pub early_start : FileTimes → ℕ → Bool
early_start t n = starts_early t && eqb t.starts n

-- or of either
abbrev pub early_by : FileTimes → ℕ → Bool
early_by t n = early_move t n || early_start t n
