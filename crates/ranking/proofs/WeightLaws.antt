-- The bound of a weight, and one turn of each loop that computes weights.
use Prim.Native.Nat.{ℕ, zero, suc, ◌+◌, ◌-◌, ◌*◌, ◌≤◌, ◌<◌, max}
use mathlib.Core.Bool.{true}
use mathlib.Core.List.{List}
use mathlib.Core.Path.{◌≡◌, sym, ap, ◌∙◌}
use native.Mathlib.Omega.{arith}
use native.Mathlib.Decide.{ℕ_discrete}
use lib.ListN.{get_or, set, length, replicate}
use lib.Seq.{get_or-set_same, get_or-set_other}
use borrow.Author.Tests.{eqb-true}
use Rattle.rules.specs.Count.{max_where}
use Rattle.rules.specs.Limits.{max_tasks, move_times}
use Rattle.rules.specs.Model.{blue, red, time_on, task_at, Instance, task_count, file_at, file_count, move_time_at}
use Rattle.rules.specs.Scheduling.{makes, weight_within, weight}
use Rattle.rules.specs.Promises.{WellFormed}
use Rattle.rules.proofs.CountLaws.{where-under, get_or-same}
use Rattle.rules.proofs.WeightLaws.{weight_law}
use Rattle.model.specs.declared.job.Job.{Job}
use Rattle.model.specs.Jobs.{instance_in}
use Rattle.model.proofs.JobLaws.{files-in, tasks-in}
use Rattle.links.specs.Chains.{NextOf}
use Rattle.links.proofs.ChainLaws.{max-first, max-behind}
use Rattle.ranking.specs.Weights.{most_step, most_weight, WeightsFrom}

-- ---- the bound

within-bound : (I : Instance) → WellFormed I → (d i : ℕ) → i < task_count I → weight_within I d i ≤ most_step * d
unfolding weight_within
within-bound I W zero i l = omega arith
within-bound I W (suc d) i l = omega (
  arith,
  (W.times blue i l).most,
  (W.times red i l).most,
  where-under (file_count I) (makes I i) (λ k. move_time_at I k + weight_within I d (file_at I k).reader) (move_times.most + most_step * d)
      (λ k lk _. omega (arith, (W.move_times k lk).most, within-bound I W d (file_at I k).reader (W.exists k lk))),
)

pub weight-bound : (I : Instance) → WellFormed I → (i : ℕ) → i < task_count I → weight I i ≤ most_weight
unfolding weight
weight-bound I W i l = omega (arith, within-bound I W (task_count I) i l, W.tasks.most)

-- ---- the greatest over the files

-- the path from a file's move on
abbrev pub path_at : Instance → ℕ → ℕ
path_at I k = move_time_at I k + weight I (file_at I k).reader

module _ (j : Job) (W : WellFormed (instance_in j)) where
  abbrev I : Instance
  I = instance_in j

  module _ (i : ℕ) where
    -- m is the greatest path of the files of task i below k
    abbrev pub Walked : ℕ → ℕ → Type 0
    Walked k m = m ≡ max_where k (makes I i) (path_at I)

    pub walk_start : {r : ℕ} → NextOf (length j.files.now) (makes I i) 0 r → Walked r 0
    walk_start begin = sym (max-first begin (makes I i) (λ j e. e) (path_at I))

    -- file k, which it makes
    module _ {k : ℕ} (m : ℕ) (at : Walked k m) (h : k < (length j.files.now)) (made : makes I i k ≡ true) {ws : List ℕ} (f : WeightsFrom I ws (i + 1)) {d t : ℕ}
        (p : d ≡ (file_at I k).reader) (q : t ≡ move_time_at I k) where
      is-file : k < file_count I
      is-file = omega (arith, files-in j)

      path-known : path_at I k ≡ t + get_or ws d 0
      path-known = omega (
        arith,
        q,
        ap (weight I) p,
        f.known d (omega (arith, p, W.ordered k is-file, eqb-true (file_at I k).maker i made)) (omega (arith, p, W.exists k is-file)),
      )

      pub walk_turn : {r n : ℕ} → NextOf (length j.files.now) (makes I i) (suc k) n → r ≡ max m (t + get_or ws d 0) → Walked n r
      walk_turn {r} {n} behind e =
          let passed : max_where n (makes I i) (path_at I) ≡ max (max_where k (makes I i) (path_at I)) (path_at I k) =
          rw made at (max-behind behind (makes I i) (λ j e. e) (path_at I)) in
          omega (arith, passed, path-known, at, e)

    pub walk_end : {k m : ℕ} → Walked k m → k ≡ (length j.files.now) → m ≡ max_where (file_count I) (makes I i) (path_at I)
    walk_end at h = at ∙ ap (λ n. max_where n (makes I i) (path_at I)) (h ∙ sym (files-in j))

  -- ---- the array of weights

  pub weights-none : WeightsFrom I (replicate max_tasks 0) (length j.tasks.now)
  weights-none = record {
    known = λ i a l. absurd (omega (arith, tasks-in j));
    bounded = λ i. omega (arith, get_or-same {A = ℕ} max_tasks i 0);
  }

  -- the next task down
  pub weights-next : {ws : List ℕ} {i : ℕ} → 0 < i → WeightsFrom I ws i → WeightsFrom I ws (i - 1 + 1)
  weights-next {ws} {i} some f = let e : i - 1 + 1 ≡ i = omega arith in rw e f

  pub weights-all : {ws : List ℕ} {n : ℕ} → n ≡ 0 → WeightsFrom I ws n → (i : ℕ) → i < (length j.tasks.now) → get_or ws i 0 ≡ weight I i
  weights-all e f i l = f.known i (omega arith) (omega (arith, tasks-in j))

  -- one task's weight
  module _ (i : ℕ) (h : i < (length j.tasks.now)) {x y z : ℕ} (p : x ≡ time_on blue (task_at I i)) (q : y ≡ time_on red (task_at I i)) (e : z ≡ max_where (file_count I) (makes I i) (path_at I)) where
    inside : i < task_count I
    inside = omega (arith, tasks-in j)

    sum-weight : x + y + z ≡ weight I i
    sum-weight = omega (arith, weight_law I W i inside)

    pub weight-fits : x + y + z ≤ most_weight
    weight-fits = omega (arith, sum-weight, weight-bound I W i inside)

    pub weights-turn : {ws : List ℕ} → length ws ≡ max_tasks → WeightsFrom I ws (i + 1) → WeightsFrom I (set ws i (x + y + z)) i
    weights-turn {ws} size f = record {
      known = λ j a u. elim (ℕ_discrete j i) [
        | yes d ↦ rw d (get_or-set_same ws i (x + y + z) 0 (omega (arith, inside, W.tasks.most)) ∙ sum-weight)
        | no d ↦ get_or-set_other ws i j (x + y + z) 0 d ∙ f.known j (omega arith) u
      ];
      bounded = λ j. elim (ℕ_discrete j i) [
        | yes d ↦ rw d (omega (arith, weight-fits, get_or-set_same ws i (x + y + z) 0 (omega (arith, inside, W.tasks.most))))
        | no d ↦ rw (get_or-set_other ws i j (x + y + z) 0 d) (f.bounded j)
      ];
    }
