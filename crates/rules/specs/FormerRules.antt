-- The two rules that Order 1 changed, as document 01 has them by itself, so without W; and that for runs that take time they mean what they did.
use Rattle.std.specs.Prelude.{ℕ, suc, ◌+◌, ◌≤◌, ◌<◌, true, cond, ◌≡◌, ◌↔◌}
use Rattle.std.proofs.Math.Option.{some}
use Rattle.rules.specs.Count.{sum_where}
use Rattle.rules.specs.Model.{Colour, blue, red, same_colour, Instance, limit_of, task_count, task_at, file_at, file_count, size_at, time_on, NoWork}
use Rattle.rules.specs.Model.{is_placed, Schedule, run_at, start_at, move_at, colour_of, finish_of, crosses, finish_at, maker_run, reader_run, move_end}
use Rattle.rules.specs.Residency.{Hold, never, open_hold, closed_hold, covers, held}
use Rattle.rules.specs.Validity.{Claim, Occupies, ShareInstant, AllOnTime, Greatest, Valid, ReadsLate, refused_by, judge}
use Rattle.rules.specs.Scheduling.{free_from}
use Rattle.rules.specs.Promises.{WellFormed, Spellable, First}

-- ---- the rules before Order 1

-- the runs of tasks i and j share an instant: there is a tick at which both run
pub record FormerShareInstant (I : Instance) (P : Schedule) (i j : ℕ) : Type 0 where
  pub instant : ℕ
  pub first : Occupies I P i instant
  pub second : Occupies I P j instant

-- the hold of file k in memory c: its reader keeps it until its finish, whatever its run time
unfoldable pub former_hold : Instance → Schedule → Colour → ℕ → Hold
former_hold I P c k =
    let maker = maker_run I P k in
    let reader = reader_run I P k in
    let here = same_colour (colour_of I maker) c in
    let closed = closed_hold (crosses I maker reader) here maker.start (move_at P k) (move_end I P k) (finish_of I (file_at I k).reader reader) in
    cond (is_placed maker) (cond (is_placed reader) closed (open_hold here maker.start)) never

-- the total held in memory c at tick t
unfoldable pub former_held : Instance → Schedule → Colour → ℕ → ℕ
former_held I P c t = sum_where (file_count I) (λ k. covers (former_hold I P c k) t) (size_at I)

-- a task whose run shares an instant with another on its processor
pub record FormerShares (I : Instance) (P : Schedule) (i : ℕ) : Type 0 where
  pub exists : i < task_count I
  pub other : ℕ
  pub other_exists : other < task_count I
  pub differs : i ≡ other → ⊥
  pub processor : (run_at P i).processor ≡ (run_at P other).processor
  pub shares : FormerShareInstant I P i other

-- an instant at which a memory holds more than its limit
pub record FormerOver (I : Instance) (P : Schedule) (t : ℕ) : Type 0 where
  pub memory : Colour
  pub more : limit_of I memory < former_held I P memory t

-- no two runs on one processor share an instant
abbrev pub FormerApart : Instance → Schedule → Type 0
FormerApart I P =
    (i j : ℕ) → i < task_count I → j < task_count I → (i ≡ j → ⊥) → (run_at P i).processor ≡ (run_at P j).processor → FormerShareInstant I P i j → ⊥

-- at no instant is more held than the limit
abbrev pub FormerWithin : Instance → Schedule → Type 0
FormerWithin I P = (c : Colour) (t : ℕ) → former_held I P c t ≤ limit_of I c

-- document 01's valid timetable, before Order 1
pub record FormerValid (I : Instance) (P : Schedule) (claim : Claim) : Type 0 where
  pub apart : FormerApart I P
  pub on_time : AllOnTime I P
  pub within : FormerWithin I P
  pub span : Greatest (λ i. i < task_count I) (finish_at I P) claim.span
  pub blue_peak : Greatest (λ t. Unit {0}) (former_held I P blue) claim.blue_peak
  pub red_peak : Greatest (λ t. Unit {0}) (former_held I P red) claim.red_peak

-- the places of 15 to 18
pub record FormerPlaces (I : Instance) (P : Schedule) (claim : Claim) : Type 0 where
  pub at15 : (n : ℕ) → (judge I P claim ≡ refused_by 15 (suc n)) ↔ First (FormerShares I P) n
  pub at16 : (n : ℕ) → (judge I P claim ≡ refused_by 16 (suc n)) ↔ (FormerApart I P × First (ReadsLate I P) n)
  pub at17 : (n : ℕ) → (judge I P claim ≡ refused_by 17 n) ↔ (FormerApart I P × AllOnTime I P × First (FormerOver I P) n)
  pub at18 : (judge I P claim ≡ refused_by 18 0) ↔ (FormerApart I P × AllOnTime I P × FormerWithin I P × (FormerValid I P claim → ⊥))

-- ---- that nothing changed for runs that take time, on a job without W. Alone each of these is met by any rule for runs of time 0, and for W; RelayExact and
-- WorkingMemory say what holds of them

-- two runs that take time share an instant exactly if there is a tick at which both run.
-- Not: a run refused that starts at another's finish
abbrev pub InstantLaw : Type 0
InstantLaw =
    (I : Instance) (P : Schedule) (i j : ℕ) → start_at P i < finish_at I P i → start_at P j < finish_at I P j → ShareInstant I P i j ↔ FormerShareInstant I P i j

-- each run takes time
abbrev pub RunsTakeTime : Instance → Schedule → Type 0
RunsTakeTime I P = (i : ℕ) → i < task_count I → is_placed (run_at P i) ≡ true → start_at P i < finish_at I P i

-- on a sheet without a run time of 0 every schedule is such.
-- Not: a relay on such a sheet
abbrev pub SheetTakesTime : Type 0
SheetTakesTime = (I : Instance) → ((c : Colour) (i : ℕ) → i < task_count I → 1 ≤ time_on c (task_at I i)) → (P : Schedule) → RunsTakeTime I P

-- what is held at each instant, of partial schedules too.
-- Not: each run's inputs kept one tick longer; the inputs of a run of time 1 kept until s + 2
abbrev pub FormerHeldLaw : Type 0
FormerHeldLaw = (I : Instance) → WellFormed I → NoWork I → (P : Schedule) → RunsTakeTime I P → (c : Colour) (t : ℕ) → held I P c t ≡ former_held I P c t

-- starts 3 and 4: the first tick from which on always `need` is free.
-- Not: a task that waits one tick more for what the runs before it read
abbrev pub FormerFreeLaw : Type 0
FormerFreeLaw =
    (I : Instance) → WellFormed I → NoWork I → (P : Schedule) → RunsTakeTime I P → (c : Colour) (need t : ℕ) →
    (free_from I P c need ≡ some t) ↔ First (λ s. (u : ℕ) → s ≤ u → former_held I P c u + need ≤ limit_of I c) t

-- of the timetables that the due lines can spell the same are valid.
-- Not: one refused in which a run starts at another's finish
abbrev pub FormerValidLaw : Type 0
FormerValidLaw =
    (I : Instance) → WellFormed I → NoWork I → (P : Schedule) (claim : Claim) → Spellable I P claim → RunsTakeTime I P → Valid I P claim ↔ FormerValid I P claim

-- and the others are refused by the same number at the same place.
-- Not: 17 one tick later; another of two tasks named
abbrev pub FormerPlaceLaw : Type 0
FormerPlaceLaw = (I : Instance) → WellFormed I → NoWork I → (P : Schedule) (claim : Claim) → Spellable I P claim → RunsTakeTime I P → FormerPlaces I P claim
