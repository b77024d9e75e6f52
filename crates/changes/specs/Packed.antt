-- A change as one number: its key in time order, and below it the amount, which is less than `unit`.
use Rattle.std.specs.Prelude.{ℕ, ◌+◌, ◌*◌, ◌/◌, ◌%◌, eqb}
use Rattle.rules.specs.Changes.{Change, time_key}
use Rattle.sorting.specs.Sorted.{unit}

abbrev pub packed : Change → ℕ
packed x = time_key x * unit + x.amount

abbrev pub unpacked : ℕ → Change
unpacked p = record { tick = p / unit / 2; rises = eqb (p / unit % 2) 1; amount = p % unit }
