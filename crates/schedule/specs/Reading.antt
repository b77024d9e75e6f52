-- What is read of a timetable, as the rules have it.
use Rattle.std.specs.Prelude.{ℕ, ◌≡◌, [], Result, Ok, Err}
use Rattle.rules.specs.Count.{list_below}
use Rattle.rules.specs.Model as Rules
use Rattle.rules.specs.Model.{Schedule}
use Rattle.rules.specs.ScheduleText.{ScheduleRead, refused, read}
use Rattle.rules.specs.Refusals.{as_fault}
use Rattle.rules.specs.declared.refusal.Refusal.{Refusal}
use Rattle.rules.specs.declared.refusal.Refusal.TheVariants.{Timetable}
use Rattle.model.specs.declared.claim.Claim.{Claim}
use Rattle.model.specs.declared.layout.Run.{Run}
use Rattle.model.specs.Layout.{Entries, run_from}
use Rattle.model.specs.Claims.{as_claim}

abbrev pub as_run : Run → Rules.Run
as_run r = record { processor = r.processor; start = r.start }

abbrev pub nothing : Schedule
nothing = record { runs = []; moves = [] }

-- the runs of the first n tasks
abbrev pub runs_of : ℕ → Entries → Schedule
runs_of n L = record { runs = list_below n (run_from L); moves = [] }

-- the answer is the refusal; only the timetable is refused
abbrev pub IsRefused : Refusal → ScheduleRead → Type 0
IsRefused (Timetable w k) whole = whole ≡ refused (as_fault w) k
IsRefused e whole = ⊥

-- the whole answer is what `rest` gives of what was read, or it is refused
abbrev pub GoesOn : {A : Type 0} → (A → ScheduleRead) → ScheduleRead → Result A Refusal → Type 0
GoesOn rest whole (Ok a) = whole ≡ rest a
GoesOn rest whole (Err e) = IsRefused e whole

-- an answer, with the schedule that was read
abbrev pub IsRead : Schedule → Result Claim Refusal → ScheduleRead → Type 0
IsRead P r whole = GoesOn (λ c. read P (as_claim c)) whole r
