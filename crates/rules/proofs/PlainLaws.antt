-- Order 4, the rounds: HEFT's trials; and that where memory is ample a planner does what its plain parent does.
use Prim.Native.Nat.{ℕ, zero, suc, ◌+◌, ◌*◌, ◌≤◌}
use mathlib.Core.Bool.{true}
use mathlib.Core.List.{List, [], ◌∷◌}
use mathlib.Core.Option.{some}
use mathlib.Core.Path.{◌≡◌, refl, sym, ◌∙◌, ap}
use native.Mathlib.Omega.{arith}
use lib.Dec.{leb}
use Rattle.rules.specs.Model.{Colour, blue, red, Instance, task_count, file_count, move_time_at, work_at, Schedule}
use Rattle.rules.specs.Scheduling.{Partial, ready, reads, crossing, crossing_size, output_size, crossing_time, arrival, input_start, free_from, aware, plain, memory_start, earliest_start, assign, finish_on, Choice, nothing, choose, earlier, both_colours, by_weight, first_that_fits, earliest_below, Planner, heft, min_min, parent_of, round_of, complete, stuck, rounds, outcome}
use Rattle.rules.specs.Promises.{WellFormed, Ample}
use Rattle.rules.proofs.Tests.{split, and-true}
use Rattle.rules.proofs.CountLaws.{where-bound, where-under}
use Rattle.rules.proofs.ResidencyLaws.{free_from_law}
use Rattle.rules.proofs.ReadyLaws.{sizes-suffice}
use Rattle.rules.proofs.StartLaws.{plain_start}
use Rattle.rules.proofs.TurnLaws.{rounds-stuck, rounds-place, rounds-done, outcome-is}

-- ---- a plain planner's task fits on each colour, so HEFT makes two trials in each round that places a task

earlier-chooses : (I : Instance) (i : ℕ) (s t : ℕ) → (j : ℕ) × (c : Colour) × (u : ℕ) × (earlier I (choose i blue s) (choose i red t) ≡ choose j c u)
earlier-chooses I i s t = split (leb (finish_on I i blue s) (finish_on I i red t))
    (λ e. (i, blue, s, rw e))
    (λ e. (i, red, t, rw e))

both-chooses : (I : Instance) (Q : Partial) (i : ℕ) → (j : ℕ) × (c : Colour) × (u : ℕ) × (both_colours plain I Q i ≡ choose j c u)
unfolding both_colours
both-chooses I Q i = rw (plain_start I Q i blue, plain_start I Q i red) (earlier-chooses I i _ _)

first_two : (I : Instance) (Q : Partial) (is : List ℕ) (i : ℕ) (c : Colour) (s : ℕ)
    → (first_that_fits plain I Q is).choice ≡ choose i c s → (first_that_fits plain I Q is).trials ≡ 2
unfolding first_that_fits
first_two I Q [] i c s e = let z : ◌≡◌ {A = ℕ} 0 1 = cc in absurd (omega arith)
first_two I Q (j ∷ js) i c s e = split (ready I Q.schedule j)
    (λ r. let b = (both-chooses I Q j).3 in rw (r, b))
    (λ r. rw r (first_two I Q js i c s (rw r at e)))

round-two : (I : Instance) (Q : Partial) (i : ℕ) (c : Colour) (s : ℕ) → (round_of (heft plain) I Q).choice ≡ choose i c s → (round_of (heft plain) I Q).trials ≡ 2
unfolding round_of
round-two I Q i c s e = first_two I Q (by_weight I (task_count I)) i c s e

rounds-two : (I : Instance) (left : ℕ) (Q : Partial) (trials : ℕ) (P : Schedule) (total : ℕ) → rounds (heft plain) I left Q trials ≡ complete P total
    → total ≡ trials + 2 * left
rounds-two I zero Q trials P total o =
    let q : complete Q.schedule trials ≡ complete P total = sym (rounds-done (heft plain) I Q trials) ∙ o in
    let e : trials ≡ total = cc in omega arith
rounds-two I (suc left) Q trials P total o =
    by (round_of (heft plain) I Q).choice refl (λ i c s. rounds-two I left (assign I Q i c s) (trials + (round_of (heft plain) I Q).trials) P total)
  where
    by : (x : Choice) → (round_of (heft plain) I Q).choice ≡ x
        → ((i : ℕ) (c : Colour) (s : ℕ) → rounds (heft plain) I left (assign I Q i c s) (trials + (round_of (heft plain) I Q).trials) ≡ complete P total
        → total ≡ trials + (round_of (heft plain) I Q).trials + 2 * left)
        → total ≡ trials + 2 * suc left
    by nothing e ih =
        let q : stuck _ _ ≡ complete P total = sym (rounds-stuck (heft plain) I left Q trials e) ∙ o in
        let z : ◌≡◌ {A = ℕ} 0 1 = cc in absurd (omega arith)
    by (choose i c s) e ih = omega (arith, round-two I Q i c s e, ih i c s (sym (rounds-place (heft plain) I left Q trials i c s e) ∙ o))

pub completed-trials : (I : Instance) (P : Schedule) (trials : ℕ) → outcome (heft plain) I ≡ complete P trials → trials ≡ 2 * task_count I
completed-trials I P trials o = omega (arith, rounds-two I (task_count I) _ 0 P trials (sym (outcome-is (heft plain) I) ∙ o))

-- ---- the greatest move time is within start 2

time-within : (I : Instance) (Q : Partial) (i : ℕ) (c : Colour) → crossing_time I Q.schedule i c ≤ input_start I Q.schedule i c
unfolding crossing_time input_start
time-within I Q i c = where-under (file_count I) (crossing I Q.schedule i c) (move_time_at I) _ (λ k l x.
    let b = where-bound (file_count I) (reads I i) (arrival I Q.schedule i c) k l (and-true (reads I i k) _ x).0 in
    omega (arith, rw x at b))

-- ---- ample memory

module _ (I : Instance) (W : WellFormed I) (ample : Ample I) where
  module _ (Q : Partial) (i : ℕ) (ri : ready I Q.schedule i ≡ true) where
    free-at-once : (c : Colour) (need : ℕ) → need ≤ crossing_size I Q.schedule i c + output_size I i + work_at I i → free_from I Q.schedule c need ≡ some 0
    free-at-once c need l = (free_from_law I Q.schedule c need 0).1 (record {
      holds = λ t _. omega (arith, sizes-suffice I Q.schedule i ri c t W.ordered, ample c);
      least = λ t _. omega arith;
    })

    memory-ample : (c : Colour) → memory_start aware I Q.schedule i c ≡ some (crossing_time I Q.schedule i c)
    unfolding memory_start
    memory-ample c =
        let running = free-at-once c (crossing_size I Q.schedule i c + output_size I i + work_at I i) (omega arith) in
        let moving = free-at-once c (crossing_size I Q.schedule i c) (omega arith) in
        rw (running, moving) (ap some (omega arith))

    pub start-same : (c : Colour) → earliest_start aware I Q i c ≡ earliest_start plain I Q i c
    unfolding earliest_start
    start-same c = rw (memory-ample c, plain_start I Q i c) (ap some (omega (arith, time-within I Q i c)))

    both-same : both_colours aware I Q i ≡ both_colours plain I Q i
    unfolding both_colours
    both-same = rw (start-same blue, start-same red)

  first-same : (Q : Partial) (is : List ℕ) → first_that_fits aware I Q is ≡ first_that_fits plain I Q is
  unfolding first_that_fits
  first-same Q [] = refl
  first-same Q (i ∷ is) = split (ready I Q.schedule i)
      (λ r. rw (r, both-same Q i r, first-same Q is))
      (λ r. rw (r, first-same Q is))

  below-same : (Q : Partial) (n : ℕ) → earliest_below aware I Q n ≡ earliest_below plain I Q n
  unfolding earliest_below
  below-same Q zero = refl
  below-same Q (suc n) = split (ready I Q.schedule n)
      (λ r. rw (r, both-same Q n r, below-same Q n))
      (λ r. rw (r, below-same Q n))

  round_same : (R : Planner) (Q : Partial) → round_of R I Q ≡ round_of (parent_of R) I Q
  unfolding round_of
  round_same (heft aware) Q = first-same Q (by_weight I (task_count I))
  round_same (heft plain) Q = refl
  round_same (min_min aware) Q = below-same Q (task_count I)
  round_same (min_min plain) Q = refl

  rounds-same : (R : Planner) (left : ℕ) (Q : Partial) (trials : ℕ) → rounds R I left Q trials ≡ rounds (parent_of R) I left Q trials
  rounds-same R zero Q trials = rounds-done R I Q trials ∙ sym (rounds-done (parent_of R) I Q trials)
  rounds-same R (suc left) Q trials = by (round_of R I Q).choice refl (λ i c s. rounds-same R left (assign I Q i c s) (trials + (round_of R I Q).trials))
    where
      e : round_of R I Q ≡ round_of (parent_of R) I Q
      e = round_same R Q

      by : (x : Choice) → (round_of R I Q).choice ≡ x
          → ((i : ℕ) (c : Colour) (s : ℕ)
          → rounds R I left (assign I Q i c s) (trials + (round_of R I Q).trials)
          ≡ rounds (parent_of R) I left (assign I Q i c s) (trials + (round_of R I Q).trials))
          → rounds R I (suc left) Q trials ≡ rounds (parent_of R) I (suc left) Q trials
      by nothing q ih = rounds-stuck R I left Q trials q ∙ rw e (sym (rounds-stuck (parent_of R) I left Q trials (rw e at q)))
      by (choose i c s) q ih = rounds-place R I left Q trials i c s q ∙ ih i c s ∙ rw e (sym (rounds-place (parent_of R) I left Q trials i c s (rw e at q)))

  pub outcome-same : (R : Planner) → outcome R I ≡ outcome (parent_of R) I
  outcome-same R = outcome-is R I ∙ rounds-same R (task_count I) _ 0 ∙ sym (outcome-is (parent_of R) I)
