-- The needs of all tasks as they are filled, task by task, and as they are renewed, file by file, after a placing.
use Prim.Native.Nat.{ℕ, suc, ◌+◌, ◌≤◌, ◌<◌}
use mathlib.Core.Bool.{true, false}
use mathlib.Core.List.{List}
use mathlib.Core.Logic.{◌≢◌}
use mathlib.Core.Path.{◌≡◌, refl, sym, ◌∙◌}
use native.Mathlib.Omega.{arith}
use native.Mathlib.Decide.{dec_le, ℕ_discrete}
use lib.ListN.{length, get_or, set}
use lib.Seq.{get_or-set_same, get_or-set_other}
use borrow.Author.Tests.{ne_eqb}
use Rattle.rules.specs.Count.{sum_where}
use Rattle.rules.specs.Model.{Instance, Schedule, task_count, file_count, file_at, size_at, work_at, is_placed, run_at}
use Rattle.rules.specs.Scheduling.{reads, makes, ready, output_size}
use Rattle.rules.specs.Staircase.{input_size}
use Rattle.rules.proofs.Tests.{clash}
use Rattle.model.specs.declared.job.Job.{Job}
use Rattle.model.specs.Jobs.{instance_in}
use Rattle.model.proofs.JobLaws.{files-in, tasks-in}
use Rattle.links.specs.Chains.{NextOf}
use Rattle.needs.specs.declared.table.Need.{Need}
use Rattle.needs.specs.declared.table.Needs.{Needs}
use Rattle.needs.specs.Needs.{no_need, Sized, Admitted, NeedBounds, NeedsBounds}
use Rattle.needs.specs.Tables.{need_at, Right, RightBut, ReadsNone}

-- task j's of a list
abbrev pub at : List Need → ℕ → Need
at xs j = get_or xs j no_need

-- the bounds of all hold after it
pub bounds-set : {xs : List Need} {i : ℕ} {x : Need} → i < length xs → NeedsBounds xs → NeedBounds x → NeedsBounds (set xs i x)
bounds-set {xs} {i} {x} h old b = record {
  each = λ j l. elim (ℕ_discrete j i) [
    | yes d ↦ rw (d, get_or-set_same xs i x no_need h) b
    | no d ↦ rw (get_or-set_other xs i j x no_need d) (old.each j l)
  ];
}

-- ---- filling

-- the tasks below n are right
abbrev pub RightBelow : Instance → Schedule → ℕ → List Need → Type 0
RightBelow I P n xs = (j : ℕ) → j < n → Sized I j (at xs j) × Admitted I P j (at xs j)

-- after task i was placed: each task is right that reads nothing of what i makes, of the files from the n-th on
pub record RightFrom (I : Instance) (P : Schedule) (i n : ℕ) (xs : List Need) : Type 0 where
  pub sized : (j : ℕ) → j < task_count I → Sized I j (at xs j)
  pub admitted : (j : ℕ) → j < task_count I → ReadsNone I i n j → Admitted I P j (at xs j)

module _ (j : Job) (P : Schedule) where
  abbrev I : Instance
  I = instance_in j

  -- the sizes of task i, from the sums along its chains and its working memory
  module _ {i : ℕ} {made read work : ℕ} (outputs : made ≡ sum_where (file_count I) (makes I i) (size_at I))
      (inputs : read ≡ sum_where (file_count I) (reads I i) (size_at I)) (w : work ≡ work_at I i) where
    pub sizes-are : {x : Need} → (x.room ≡ made + work) × (x.kept ≡ read + work) → Sized I i x
    unfolding output_size input_size
    sizes-are e = record { room = omega (arith, e.0, outputs, w); kept = omega (arith, e.1, inputs, w) }

  -- task i filled, behind those below it
  pub fill-turn : {i : ℕ} (xs : List Need) (x : Need) → i < length xs → Sized I i x → Admitted I P i x → RightBelow I P i xs → RightBelow I P (i + 1) (set xs i x)
  fill-turn {i} xs x h s a before j l = elim (ℕ_discrete j i) [
    | yes d ↦ rw (d, get_or-set_same xs i x no_need h) (s, a)
    | no d ↦ rw (get_or-set_other xs i j x no_need d) (before j (omega arith))
  ]

  pub fill-all : {n : ℕ} (xs : Needs) → n ≡ (length j.tasks.now) → RightBelow I P n xs.tasks → Right I P xs
  fill-all xs e x = record {
    sized = λ i l. (x i (omega (arith, tasks-in j))).0;
    admitted = λ i l. (x i (omega (arith, tasks-in j))).1;
  }

  -- ---- after task i was placed

  -- task r admitted anew, its sizes kept
  module _ {r : ℕ} (xs ys : List Need) (same : (j : ℕ) → j ≢ r → at ys j ≡ at xs j) (sizes : ((at ys r).room ≡ (at xs r).room) × ((at ys r).kept ≡ (at xs r).kept))
      (a : Admitted I P r (at ys r)) where
    sized-still : {j : ℕ} → Sized I j (at xs j) → Sized I j (at ys j)
    sized-still {j} s = elim (ℕ_discrete j r) [
      | yes d ↦ rw d (record { room = sizes.0 ∙ rw d at s.room; kept = sizes.1 ∙ rw d at s.kept })
      | no d ↦ rw (same j d) s
    ]

    -- it is the reader of file k of task i
    pub renew-turn : {i k n : ℕ} → NextOf (length j.files.now) (makes I i) (suc k) n → r ≡ (file_at I k).reader → RightFrom I P i k xs → RightFrom I P i n ys
    renew-turn {i} {k} {n} next e before = record {
      sized = λ j l. sized-still (before.sized j l);
      admitted = λ j l none. elim (ℕ_discrete j r) [
        | yes d ↦ rw d a
        | no d ↦
            let more : ReadsNone I i k j = λ m g a q. elim (dec_le n m) [
              | yes p ↦ none m p a q
              | no p ↦ elim (ℕ_discrete m k) [
                | yes z ↦ rw z (ne_eqb (file_at I k).reader j (λ y. d (sym y ∙ sym e)))
                | no z ↦ clash q (next.passed m (omega arith) (omega arith))
              ]
            ] in
            rw (same j d) (before.admitted j l more)
      ];
    }

  -- the task placed is no longer ready
  module _ {i : ℕ} (xs : Needs) (x : Need) (h : i < length xs.tasks) (sizes : (x.room ≡ (need_at xs i).room) × (x.kept ≡ (need_at xs i).kept)) (a : Admitted I P i x) where
    pub renew-first : {n : ℕ} → NextOf (length j.files.now) (makes I i) 0 n → RightBut I P i xs → RightFrom I P i n (set xs.tasks i x)
    renew-first {n} next r = record {
      sized = λ j l. elim (ℕ_discrete j i) [
        | yes d ↦ let s = rw d at (r.sized j l) in
            rw (d, get_or-set_same xs.tasks i x no_need h) (record { room = sizes.0 ∙ s.room; kept = sizes.1 ∙ s.kept })
        | no d ↦ rw (get_or-set_other xs.tasks i j x no_need d) (r.sized j l)
      ];
      admitted = λ j l none. elim (ℕ_discrete j i) [
        | yes d ↦ rw (d, get_or-set_same xs.tasks i x no_need h) a
        | no d ↦
            let all : ReadsNone I i 0 j = λ k _ a m. elim (dec_le n k) [
              | yes g ↦ none k g a m
              | no g ↦ clash m (next.passed k (omega arith) (omega arith))
            ] in
            rw (get_or-set_other xs.tasks i j x no_need d) (r.admitted j l d all)
      ];
    }

  pub renew-all : {i n : ℕ} (xs : Needs) → (length j.files.now) ≤ n → RightFrom I P i n xs.tasks → Right I P xs
  renew-all {i} {n} xs e x =
      let none : (t : ℕ) → ReadsNone I i n t = λ t k a l. absurd (omega (arith, files-in j)) in
      record { sized = x.sized; admitted = λ t l. x.admitted t l (none t) }

-- a task that is placed is not ready
pub placed-unready : (I : Instance) (P : Schedule) (i : ℕ) {x : Need} → x.ready ≡ false → is_placed (run_at P i) ≡ true → Admitted I P i x
unfolding ready
placed-unready I P i r e = record { is_ready = rw e r; demand = λ y. clash (rw e at y) refl }
