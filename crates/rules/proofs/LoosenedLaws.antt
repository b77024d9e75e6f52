-- Order 9: a plain planner on a board with the greatest limits: plain_loosened, loosened_ample, loosened_claim.
use Prim.Native.Nat.{ℕ, zero, suc, ◌+◌, ◌-◌, ◌≤◌}
use mathlib.Core.List.{List, [], ◌∷◌}
use mathlib.Core.Path.{◌≡◌, refl, sym, ◌∙◌, ap}
use native.Mathlib.Omega.{arith}
use Rattle.rules.specs.Model.{Colour, blue, red, Instance, side_of, limit_of, task_count, file_count, all_sizes, all_work, all_memory, file_at, move_time_at, Schedule}
use Rattle.rules.specs.Limits.{memory_limits, processor_counts, file_sizes, work_sizes}
use Rattle.rules.specs.Residency.{hold_by, work_by, files_held, work_held, held, files_horizon, work_horizon, horizon}
use Rattle.rules.specs.Validity.{makespan, peak, true_claim}
use Rattle.rules.specs.Scheduling.{Memory, aware, plain, Partial, empty, makes, ready, processor_start, input_start, memory_start, earliest_start, chosen_processor, assign, Choice, nothing, choose, earlier, both_colours, weight_within, weight, insert_by_weight, by_weight, first_that_fits, earliest_below, Planner, heft, min_min, memory_of, round_of, stuck, rounds}
use Rattle.rules.specs.Promises.{In, WellFormed, Ample, Trial}
use Rattle.rules.specs.StairsPromises.{loosened, PlainLoosened, LoosenedAmple, LoosenedClaim}
use Rattle.rules.proofs.CountLaws.{where-cong}
use Rattle.rules.proofs.ResidencyLaws.{sizes-under, work-under}
use Rattle.rules.proofs.TurnLaws.{rounds-stuck, rounds-place, rounds-done, outcome-is}
use Rattle.rules.proofs.PlainLaws.{start-same}

-- ---- what looks at no limit is the same; where it recurses, by induction

module _ (I : Instance) where
  ready-same : (P : Schedule) (i : ℕ) → ready (loosened I) P i ≡ ready I P i
  unfolding loosened ready
  ready-same P i = refl

  both-same : (Q : Partial) (i : ℕ) → both_colours plain (loosened I) Q i ≡ both_colours plain I Q i
  unfolding loosened both_colours earliest_start memory_start processor_start input_start
  both-same Q i = refl

  earlier-same : (a b : Choice) → earlier (loosened I) a b ≡ earlier I a b
  unfolding loosened
  earlier-same nothing b = refl
  earlier-same (choose i c s) nothing = refl
  earlier-same (choose i c s) (choose j d t) = refl

  assign-same : (Q : Partial) (i : ℕ) (c : Colour) (s : ℕ) → assign (loosened I) Q i c s ≡ assign I Q i c s
  unfolding loosened assign chosen_processor
  assign-same Q i blue s = refl
  assign-same Q i red s = refl

  within_same : (d i : ℕ) → weight_within (loosened I) d i ≡ weight_within I d i
  unfolding loosened weight_within
  within_same zero i = refl
  within_same (suc d) i =
      let f : Instance → ℕ → ℕ = λ J k. move_time_at I k + weight_within J d (file_at I k).reader in
      omega (arith, where-cong (file_count I) (makes I i) (f (loosened I)) (f I) (λ k l e. ap (λ w. move_time_at I k + w) (within_same d (file_at I k).reader)))

  weight-same : (i : ℕ) → weight (loosened I) i ≡ weight I i
  unfolding loosened weight
  weight-same i = within_same (task_count I) i

  insert-same : (i : ℕ) (js : List ℕ) → insert_by_weight (loosened I) i js ≡ insert_by_weight I i js
  unfolding insert_by_weight
  insert-same i [] = refl
  insert-same i (j ∷ js) = rw (weight-same j, weight-same i, insert-same i js)

  order_same : (n : ℕ) → by_weight (loosened I) n ≡ by_weight I n
  unfolding by_weight
  order_same zero = refl
  order_same (suc n) = rw (order_same n, insert-same n (by_weight I n))

  first-same : (Q : Partial) (is : List ℕ) → first_that_fits plain (loosened I) Q is ≡ first_that_fits plain I Q is
  unfolding first_that_fits
  first-same Q [] = refl
  first-same Q (i ∷ is) = rw (ready-same Q.schedule i, both-same Q i, first-same Q is)

  below-same : (Q : Partial) (n : ℕ) → earliest_below plain (loosened I) Q n ≡ earliest_below plain I Q n
  unfolding earliest_below
  below-same Q zero = refl
  below-same Q (suc n) =
      let e = earlier-same (earliest_below plain I Q n).choice (both_colours plain I Q n) in
      rw (ready-same Q.schedule n, both-same Q n, below-same Q n, e)

  round_same : (R : Planner) → memory_of R ≡ plain → (Q : Partial) → round_of R (loosened I) Q ≡ round_of R I Q
  unfolding loosened round_of
  round_same (heft plain) p Q = first-same Q (by_weight (loosened I) (task_count I)) ∙ ap (first_that_fits plain I Q) (order_same (task_count I))
  round_same (min_min plain) p Q = below-same Q (task_count I)
  round_same (heft aware) p Q = let z : ◌≡◌ {A = ℕ} 0 1 = cc in absurd (omega arith)
  round_same (min_min aware) p Q = let z : ◌≡◌ {A = ℕ} 0 1 = cc in absurd (omega arith)

  stuck-same : (left trials : ℕ) → stuck (task_count (loosened I) - left) trials ≡ stuck (task_count I - left) trials
  unfolding loosened
  stuck-same left trials = refl

  module _ (R : Planner) (p : memory_of R ≡ plain) where
    rounds-same : (left : ℕ) (Q : Partial) (trials : ℕ) → rounds R (loosened I) left Q trials ≡ rounds R I left Q trials
    rounds-same zero Q trials = rounds-done R (loosened I) Q trials ∙ sym (rounds-done R I Q trials)
    rounds-same (suc left) Q trials = by (round_of R I Q).choice refl (λ i c s. rounds-same left (assign I Q i c s) (trials + (round_of R I Q).trials))
      where
        e : round_of R (loosened I) Q ≡ round_of R I Q
        e = round_same R p Q

        by : (x : Choice) → (round_of R I Q).choice ≡ x
            → ((i : ℕ) (c : Colour) (s : ℕ)
            → rounds R (loosened I) left (assign I Q i c s) (trials + (round_of R I Q).trials)
            ≡ rounds R I left (assign I Q i c s) (trials + (round_of R I Q).trials))
            → rounds R (loosened I) (suc left) Q trials ≡ rounds R I (suc left) Q trials
        by nothing q ih = rounds-stuck R (loosened I) left Q trials (rw e q) ∙ rw e (stuck-same (suc left) _) ∙ sym (rounds-stuck R I left Q trials q)
        by (choose i c s) q ih = rounds-place R (loosened I) left Q trials i c s (rw e q) ∙ rw (e, assign-same Q i c s) (ih i c s)
            ∙ sym (rounds-place R I left Q trials i c s q)

  empty-same : empty (loosened I) ≡ empty I
  unfolding loosened empty
  empty-same = refl

  count_same : task_count (loosened I) ≡ task_count I
  unfolding loosened
  count_same = refl

pub plain_loosened : PlainLoosened
plain_loosened R p I =
    outcome-is R (loosened I) ∙ rw (empty-same I, count_same I) (rounds-same I R p (task_count I) (empty I) 0) ∙ sym (outcome-is R I)

-- ---- the greatest limits hold all that any job has

all-within : (I : Instance) → WellFormed I → all_memory I ≤ memory_limits.most
all-within I W = omega (arith, sizes-under I file_sizes.most (λ k l. (W.sizes k l).most), work-under I work_sizes.most W.work, W.files, W.tasks.most)

pub loosened_ample : LoosenedAmple
unfolding loosened all_sizes all_work
loosened_ample I W = (
  record {
    tasks = W.tasks;
    files = W.files;
    processors = on-each;
    limits = most;
    times = W.times;
    work = W.work;
    ordered = W.ordered;
    ascending = W.ascending;
    exists = W.exists;
    sizes = W.sizes;
    move_times = W.move_times;
  },
  holds-all,
)
  where
    on-each : (c : Colour) → In processor_counts (side_of (loosened I) c).processors
    on-each blue = W.processors blue
    on-each red = W.processors red

    most : (c : Colour) → In memory_limits (limit_of (loosened I) c)
    most blue = record { least = omega arith; most = omega arith }
    most red = record { least = omega arith; most = omega arith }

    holds-all : Ample (loosened I)
    holds-all blue = all-within I W
    holds-all red = all-within I W

-- ---- a timetable's claim

pub loosened_claim : LoosenedClaim
unfolding loosened held files_held work_held horizon files_horizon work_horizon hold_by work_by true_claim peak makespan
loosened_claim I P = refl

-- ---- where memory is ample, a trial of any planner is one of a planner that looks at memory

pub aware-trial : (I : Instance) → WellFormed I → Ample I → (Q : Partial) (m : Memory) (i : ℕ) (c : Colour) (s : ℕ) → Trial m I Q i c s → Trial aware I Q i c s
aware-trial I W a Q aware i c s T = T
aware-trial I W a Q plain i c s T = record {
  exists = T.exists;
  is_ready = T.is_ready;
  earliest = start-same I W a Q i T.is_ready c ∙ T.earliest;
}
