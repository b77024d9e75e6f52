-- Order 1 in words: until when the inputs of a run are held, and when a relay shares an instant with another run.
use Rattle.std.specs.Prelude.{ℕ, suc, ◌+◌, ◌≤◌, ◌<◌, true, ◌≡◌, ◌↔◌}
use Rattle.rules.specs.Model.{Instance, task_count, task_at, time_on, file_count, file_at, Run, is_placed, Schedule, run_at, start_at, finish_at, release_at}
use Rattle.rules.specs.Model.{colour_of, finish_of, release_of, maker_run, reader_run}
use Rattle.rules.specs.Residency.{is_held}
use Rattle.rules.specs.Validity.{Claim, ShareInstant, OnTime, refused_by, judge}
use Rattle.rules.specs.Promises.{WellFormed}

-- ---- inputs

-- the release of a run of time 0 at s is s + 1, that of any other run its finish.
-- Not: inputs that vanish as outputs appear; inputs kept one tick longer by each run. It fixes the release; InputsLaw and WorkHeldLaw say what it is for
abbrev pub ReleaseLaw : Type 0
ReleaseLaw =
    (I : Instance) (i : ℕ) (r : Run) →
    (time_on (colour_of I r) (task_at I i) ≡ 0 → release_of I i r ≡ r.start + 1) × (1 ≤ time_on (colour_of I r) (task_at I i) → release_of I i r ≡ finish_of I i r)

-- from a run's start on, its memory holds a file that it reads, if on time, exactly until its release, whether or not the file moved there.
-- Not: what a relay reads held at no instant, or at s + 1 too. With ReleaseLaw it fixes when the inputs of each run are given back
abbrev pub InputsLaw : Type 0
InputsLaw =
    (I : Instance) (P : Schedule) (k : ℕ) → is_placed (maker_run I P k) ≡ true → is_placed (reader_run I P k) ≡ true → OnTime I P k →
    (t : ℕ) → (reader_run I P k).start ≤ t → (is_held I P (colour_of I (reader_run I P k)) t k ≡ true) ↔ (t < release_at I P (file_at I k).reader)

-- memory of task i's colour holds file k at its start
abbrev pub HeldAtStart : Instance → Schedule → ℕ → ℕ → Type 0
HeldAtStart I P i k = is_held I P (colour_of I (run_at P i)) (start_at P i) k ≡ true

-- at the start of a run all that it reads and all that it makes is held in its memory, also if it takes no time: both are counted together there.
-- Of files whose two tasks are placed it says so if they are on time
pub record HeldTogether (I : Instance) (P : Schedule) (i : ℕ) : Type 0 where
  pub inputs : (k : ℕ) → k < file_count I → (file_at I k).reader ≡ i → is_placed (maker_run I P k) ≡ true → OnTime I P k → HeldAtStart I P i k
  pub outputs : (k : ℕ) → k < file_count I → (file_at I k).maker ≡ i → (is_placed (reader_run I P k) ≡ true → OnTime I P k) → HeldAtStart I P i k

-- Not: inputs that vanish as outputs appear. Alone it is met by files that are always held; InputsLaw says until when
abbrev pub TogetherLaw : Type 0
TogetherLaw = (I : Instance) → WellFormed I → (P : Schedule) (i : ℕ) → is_placed (run_at P i) ≡ true → HeldTogether I P i

-- ---- sharing an instant

-- task i starts strictly inside the run of task j
abbrev pub StrictlyInside : Instance → Schedule → ℕ → ℕ → Type 0
StrictlyInside I P i j = (start_at P j < start_at P i) × (start_at P i < finish_at I P j)

-- a run i of time 0 shares an instant with another, and that one with it, exactly if it is strictly inside it.
-- Not: at its first tick or its finish; two relays at one tick; by a common tick, since it occupies none. Alone it is met by any rule for two runs that
-- take time; InstantLaw (FormerRules) rules that out
abbrev pub RelayInside : Type 0
RelayInside =
    (I : Instance) (P : Schedule) (i j : ℕ) → finish_at I P i ≡ start_at P i →
    (ShareInstant I P i j ↔ StrictlyInside I P i j) × (ShareInstant I P j i ↔ StrictlyInside I P i j)

-- a relay i strictly inside the run of task j on its processor is refused by 15, at a task that is neither above i nor above j.
-- Not: such a relay accepted, or refused by another number. Alone it is met by 15 at task 1 for each paper; PlaceLaw rules that out
abbrev pub InsideRefused : Type 0
InsideRefused =
    (I : Instance) (P : Schedule) (claim : Claim) (i j : ℕ) → i < task_count I → j < task_count I → (run_at P i).processor ≡ (run_at P j).processor →
    finish_at I P i ≡ start_at P i → StrictlyInside I P i j → (n : ℕ) × (judge I P claim ≡ refused_by 15 (suc n)) × (n ≤ i) × (n ≤ j)
