-- The times of a file and its hold, as the code has them and as the rules do.
use Rattle.std.specs.Prelude.{ℕ, ◌≤◌, ◌≡◌, Bool, true, false, Option, Some, None, MatchOption, IfSome}
use Rattle.rules.specs.Model.{Instance, file_at, Schedule, start_at, move_at, move_end, release_at, maker_run, moved, made_at}
use Rattle.rules.specs.Residency.{Hold as Held, never, during, since, settles, closed_hold}
use Rattle.model.specs.declared.residency.Transfer.{Transfer}
use Rattle.model.specs.declared.residency.FileTimes.{FileTimes}
use Rattle.model.specs.declared.residency.Hold.{Hold}
use Rattle.model.specs.declared.residency.Hold.TheVariants.{Never, During, Since}

-- file k moves at these ticks
pub record MoveOf (I : Instance) (P : Schedule) (k : ℕ) (m : Transfer) : Type 0 where
  pub moves : moved I P k ≡ true
  pub departs : m.departs ≡ move_at P k
  pub arrives : m.arrives ≡ move_end I P k

-- the move of file k, if it moves
abbrev pub TransferOf : Instance → Schedule → ℕ → Option Transfer → Type 0
TransferOf I P k o = MatchOption o (moved I P k ≡ false) (MoveOf I P k)

-- what the two runs of file k imply
pub record TimesOf (I : Instance) (P : Schedule) (k : ℕ) (t : FileTimes) : Type 0 where
  pub begun : t.begun ≡ (maker_run I P k).start
  pub made : t.made ≡ made_at I P k
  pub transfer : TransferOf I P k t.transfer
  pub starts : t.starts ≡ start_at P (file_at I k).reader
  pub released : t.released ≡ release_at I P (file_at I k).reader

-- no time is later than b
abbrev pub TransferWithin : ℕ → Option Transfer → Type 0
TransferWithin b o = IfSome o (λ m. (m.departs ≤ b) × (m.arrives ≤ b))

pub record TimesWithin (b : ℕ) (t : FileTimes) : Type 0 where
  pub begun : t.begun ≤ b
  pub made : t.made ≤ b
  pub transfer : TransferWithin b t.transfer
  pub starts : t.starts ≤ b
  pub released : t.released ≤ b

-- the rules' hold of a file with both its tasks placed, by its times
abbrev pub closed_with : Option Transfer → Bool → ℕ → ℕ → Held
closed_with (Some m) here begun released = closed_hold true here begun m.departs m.arrives released
closed_with None here begun released = closed_hold false here begun 0 0 released

abbrev pub closed_by : FileTimes → Bool → Held
closed_by t here = closed_with t.transfer here t.begun t.released

abbrev pub as_hold : Hold → Held
as_hold Never = never
as_hold (During from end) = during from end
as_hold (Since from) = since from

-- no tick of the hold is later than b
abbrev pub Within : ℕ → Hold → Type 0
Within b h = settles (as_hold h) ≤ b
