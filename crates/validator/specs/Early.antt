-- Whether a file is early, by its times.
use Rattle.std.specs.Prelude.{ℕ, Bool, false, ◌||◌, ltb, Option, Some, None}
use Rattle.model.specs.declared.residency.Transfer.{Transfer}
use Rattle.model.specs.declared.residency.FileTimes.{FileTimes}

-- a move starts before tick t
abbrev pub departs_before : Option Transfer → ℕ → Bool
departs_before (Some m) t = ltb m.departs t
departs_before None t = false

-- when a file is there to be read: at the end of its move, or where it does not move, as it is made
abbrev pub arrival : Option Transfer → ℕ → ℕ
arrival (Some m) made = m.arrives
arrival None made = made

-- it moves before it is made
abbrev pub moves_early : FileTimes → Bool
moves_early t = departs_before t.transfer t.made

-- its reader starts before it arrived
abbrev pub starts_early : FileTimes → Bool
starts_early t = ltb t.starts (arrival t.transfer t.made)

abbrev pub too_early : FileTimes → Bool
too_early t = moves_early t || starts_early t
