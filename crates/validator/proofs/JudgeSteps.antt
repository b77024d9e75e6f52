-- The verdict on a complete timetable, test by test.
use Prim.Native.Nat.{ℕ, ◌+◌, ◌<◌}
use mathlib.Core.Bool.{Bool, true, false, ◌&&◌}
use mathlib.Core.Option.{Option, none, some}
use mathlib.Core.Path.{◌≡◌, sym, ◌∙◌}
use native.Mathlib.Numerals.{add-one}
use native.Mathlib.Omega.{arith}
use lib.Dec.{eqb}
use lib.ListN.{length}
use Rattle.std.proofs.Math.Bool.{and_assoc}
use borrow.Author.Tests.{lt-ltb, le-ltb}
use Rattle.rules.specs.Count.{first_below}
use Rattle.rules.specs.Model.{Instance, task_count, Schedule}
use Rattle.rules.specs.Validity.{Claim, AllOnTime, overlaps, reads_early, makespan, same_claim, Verdict, refused_by, accepted_with}
use Rattle.rules.specs.Validity.{judged_memory, judged_timing, judge}
use Rattle.rules.specs.Changes.{memory_by_first, memory_by_changes}
use Rattle.rules.specs.Promises.{WellFormed}
use Rattle.rules.proofs.CountLaws.{first-none}
use Rattle.rules.proofs.ValidLaws.{on_time-exact}
use Rattle.rules.proofs.ChangeLaws.{memory-same}
use Rattle.model.specs.declared.timetable.Timetable.{Timetable}
use Rattle.model.specs.Jobs.{instance_in, schedule_in, AllPlaced}
use Rattle.model.proofs.JobLaws.{tasks-in, placed-complete}
use Rattle.validator.specs.Memories.{ByChanges}

module _ (t : Timetable) (W : WellFormed (instance_in t.job)) (placed : AllPlaced t.job t.schedule.now) (claim : Claim) where
  abbrev I : Instance
  I = instance_in t.job

  abbrev P : Schedule
  P = schedule_in t

  abbrev n : ℕ
  n = length t.job.tasks.now

  -- the lowest task that overlaps, or n
  abbrev Overlapping : ℕ → Type 0
  Overlapping i = i ≡ first_below (task_count I) (overlaps I P)

  pub judge-15 : {i : ℕ} → Overlapping i → i < n → refused_by 15 (i + 1) ≡ judge I P claim
  unfolding judge
  judge-15 {i} e l = rw (add-one i, e) (rw (lt-ltb (first_below (task_count I) (overlaps I P)) (task_count I) (omega (arith, tasks-in t.job))))

  -- the lowest task that reads an early file, or n
  abbrev Early : ℕ → Type 0
  Early j = j ≡ first_below (task_count I) (reads_early I P)

  module _ (apart : Overlapping n) where
    past-15 : {v : Verdict} → v ≡ judged_timing I P claim → v ≡ judge I P claim
    unfolding judge
    past-15 r = r ∙ rw (le-ltb (first_below (task_count I) (overlaps I P)) (task_count I) (omega (arith, tasks-in t.job)))

    pub judge-16 : {j : ℕ} → Early j → j < n → refused_by 16 (j + 1) ≡ judge I P claim
    unfolding judged_timing
    judge-16 {j} e l =
        past-15 (rw (add-one j, e) (rw (lt-ltb (first_below (task_count I) (reads_early I P)) (task_count I) (omega (arith, tasks-in t.job)))))

    module _ (timely : Early n) {over : Option ℕ} {blue_peak red_peak : ℕ} (m : ByChanges I P over blue_peak red_peak) where
      past-16 : {v : Verdict} → v ≡ judged_memory I P claim → v ≡ judge I P claim
      unfolding judged_timing
      past-16 r = past-15 (r ∙ rw (le-ltb (first_below (task_count I) (reads_early I P)) (task_count I) (omega (arith, tasks-in t.job))))

      on_time : AllOnTime I P
      on_time = (on_time-exact I W P).0 (first-none (task_count I) (reads_early I P) (le-ltb _ (task_count I) (omega (arith, tasks-in t.job))))

      -- 17 and 18, by the changes
      by_first : memory_by_first over claim (record { span = makespan I P; blue_peak = blue_peak; red_peak = red_peak }) ≡ judged_memory I P claim
      unfolding memory_by_changes
      by_first =
          rw (m.is_first, m.is_blue_peak, m.is_red_peak)
          (memory-same I W P (placed-complete t.job t.schedule.now placed) claim m.blues m.reds m.blue_in_time m.red_in_time on_time)

      pub judge-17 : {tick : ℕ} → over ≡ some tick → refused_by 17 tick ≡ judge I P claim
      judge-17 e = past-16 (rw e at by_first)

      -- the claim against the true one
      module _ (e : over ≡ none) {span : ℕ} (s : span ≡ makespan I P) {b : Bool}
          (same : b ≡ eqb claim.span span && (eqb claim.blue_peak blue_peak && eqb claim.red_peak red_peak)) where
        is-same : b ≡ same_claim claim (record { span = makespan I P; blue_peak = blue_peak; red_peak = red_peak })
        is-same = rw s at same ∙ sym (and_assoc (eqb claim.span (makespan I P)) _ _)

        pub judge-18 : b ≡ false → refused_by 18 0 ≡ judge I P claim
        judge-18 h = past-16 (rw (e, ← is-same, h) at by_first)

        pub judge-0 : b ≡ true → accepted_with claim ≡ judge I P claim
        judge-0 h = past-16 (rw (e, ← is-same, h) at by_first)
