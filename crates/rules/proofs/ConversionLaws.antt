-- Order 7, the converted job: shape_law; that it is well formed, and has no W.
use Prim.Native.Nat.{ℕ, suc, ◌+◌, ◌≤◌, ◌<◌}
use mathlib.Core.Bool.{true}
use mathlib.Core.List.{map}
use mathlib.Core.Path.{◌≡◌, refl, sym, ap, ◌∙◌}
use native.Mathlib.Omega.{arith}
use native.Mathlib.Decide.{dec_le}
use lib.ListN.{replicate, length-append, length-map, length-replicate, get_or-replicate, get_or-append}
use lib.Seq.{get_or-append-add}
use borrow.Author.Tests.{ltb-true, lt-ltb}
use Rattle.rules.specs.Count.{count_where, list_below}
use Rattle.rules.specs.Limits.{run_times, work_sizes}
use Rattle.rules.specs.Model.{Colour, blue, red, Instance, side_of, limit_of, processor_count, task_count, file_count, task_at, work_at, file_at, time_on, NoWork}
use Rattle.rules.specs.Promises.{In, Before, by_maker, WellFormed}
use Rattle.rules.specs.Conversion.{has_work, added_count, served_at, added_task, without_work, shifted_by, added_file, converted}
use Rattle.rules.specs.ConversionPromises.{Convertible, ShapeLaw}
use Rattle.rules.proofs.Tests.{by_order}
use Rattle.rules.proofs.CountLaws.{length-list_below, get_or-list_below}
use Rattle.rules.proofs.WhereLaws.{length-where, where-nth, where-place, count-mono, count_yes}
use Rattle.rules.proofs.WorkLaws.{no-task}
use Rattle.rules.proofs.AppendLaws.{below-either, get_or-map-below}
use Rattle.rules.proofs.InsideLaws.{later-before}

module _ (I : Instance) where
  -- ---- what stands where

  abbrev K : Instance
  K = converted I

  abbrev m : ℕ
  m = added_count I

  pub tasks-converted : task_count K ≡ m + task_count I
  unfolding converted
  tasks-converted = omega (arith, length-append (replicate m added_task) (map without_work I.tasks), length-replicate m added_task, length-map I.tasks without_work)

  pub files-converted : file_count K ≡ m + file_count I
  unfolding converted
  files-converted =
      omega (arith, length-append (list_below m (added_file I)) (map (shifted_by m) I.files), length-list_below m (added_file I), length-map I.files (shifted_by m))

  pub task-added : (i : ℕ) → i < m → task_at K i ≡ added_task
  unfolding converted
  task-added i l = get_or-append (replicate m added_task) _ _ i (rw (length-replicate m added_task) l) ∙ get_or-replicate m i added_task _ l

  pub task-old : (i : ℕ) → i < task_count I → task_at K (m + i) ≡ without_work (task_at I i)
  unfolding converted
  task-old i l =
      ap (λ n. task_at K (n + i)) (sym (length-replicate m added_task))
      ∙ get_or-append-add (replicate m added_task) _ i _ ∙ get_or-map-below without_work I.tasks i _ _ l

  pub time-old : (c : Colour) (i : ℕ) → i < task_count I → time_on c (task_at K (m + i)) ≡ time_on c (task_at I i)
  time-old blue i l = ap (time_on blue) (task-old i l)
  time-old red i l = ap (time_on red) (task-old i l)

  pub time-added : (c : Colour) (k : ℕ) → k < m → time_on c (task_at K k) ≡ 0
  time-added blue k l = ap (time_on blue) (task-added k l)
  time-added red k l = ap (time_on red) (task-added k l)

  pub file-added : (k : ℕ) → k < m → file_at K k ≡ added_file I k
  unfolding converted
  file-added k l = get_or-append (list_below m (added_file I)) _ _ k (rw (length-list_below m (added_file I)) l) ∙ get_or-list_below m (added_file I) k _ l

  pub file-old : (k : ℕ) → k < file_count I → file_at K (m + k) ≡ shifted_by m (file_at I k)
  unfolding converted
  file-old k l =
      ap (λ n. file_at K (n + k)) (sym (length-list_below m (added_file I)))
      ∙ get_or-append-add (list_below m (added_file I)) _ k _ ∙ get_or-map-below (shifted_by m) I.files k _ _ l

  pub side_same : (c : Colour) → side_of K c ≡ side_of I c
  unfolding converted
  side_same blue = refl
  side_same red = refl

  pub limit-same : (c : Colour) → limit_of K c ≡ limit_of I c
  limit-same c = ap (λ s. s.limit) (side_same c)

  pub blues-same : K.blue_side.processors ≡ I.blue_side.processors
  unfolding converted
  blues-same = refl

  pub processors-same : processor_count K ≡ processor_count I
  unfolding converted
  processors-same = refl

  pub of-task : (C : ℕ → Type 0) → ((i : ℕ) → i < m → C i) → ((i : ℕ) → i < task_count I → C (m + i)) → (i : ℕ) → i < task_count K → C i
  of-task C f g i l = below-either C m (task_count I) f g i (omega (arith, tasks-converted))

  pub of-file : (C : ℕ → Type 0) → ((k : ℕ) → k < m → C k) → ((k : ℕ) → k < file_count I → C (m + k)) → (k : ℕ) → k < file_count K → C k
  of-file C f g k l = below-either C m (file_count I) f g k (omega (arith, files-converted))

  -- each task served exists, and has W
  pub serves : (k : ℕ) → k < m → (served_at I k < task_count I) × (has_work I (served_at I k) ≡ true)
  serves k l = let r = where-nth (has_work I) (task_count I) k l in (r.0, r.1)

  -- ---- the converted sheet is well formed

  module _ (W : WellFormed I) where
    ascending-converted : (k : ℕ) → suc k < file_count K → Before (file_at K k) (file_at K (suc k))
    ascending-converted k l = below-either (λ k. suc k < file_count K → Before (file_at K k) (file_at K (suc k))) m (file_count I)
        (λ k lk h. elim (dec_le m (suc k)) [
          | no n ↦ rw (file-added k lk, file-added (suc k) (omega arith)) (by_maker (omega arith))
          | yes n ↦
              let e : suc k ≡ m + 0 = omega arith in
              let q : 0 < file_count I = omega (arith, files-converted) in
              rw (e, file-added k lk, file-old 0 q) (by_maker (omega arith))
        ])
        (λ k lk h.
        let e : suc (m + k) ≡ m + suc k = omega arith in
        let q : suc k < file_count I = omega (arith, files-converted) in
        rw (e, file-old k lk, file-old (suc k) q) (later-before (file_at I k) (file_at I (suc k)) m (W.ascending k q)))
        k (omega (arith, files-converted)) l

    pub converted-formed : Convertible I → WellFormed K
    converted-formed fit = record {
      tasks = record { least = omega (arith, W.tasks.least, tasks-converted); most = omega (arith, fit.tasks, tasks-converted) };
      files = omega (arith, fit.files, files-converted);
      processors = λ c. rw (side_same c) (W.processors c);
      limits = λ c. rw (limit-same c) (W.limits c);
      times = λ c. of-task (λ i. In _ (time_on c (task_at K i)))
          (λ i l. rw (task-added i l) (no-time c))
          (λ i l. rw (task-old i l) (old-time c i l));
      work = of-task (λ i. (task_at K i).work ≤ work_sizes.most) (λ i l. rw (task-added i l) (omega arith)) (λ i l. rw (task-old i l) (omega arith));
      ordered = of-file (λ k. (file_at K k).maker < (file_at K k).reader)
          (λ k l. rw (file-added k l) (omega arith))
          (λ k l. rw (file-old k l) (omega (arith, W.ordered k l)));
      ascending = ascending-converted;
      exists = of-file (λ k. (file_at K k).reader < task_count K)
          (λ k l. rw (file-added k l) (omega (arith, (serves k l).0, tasks-converted)))
          (λ k l. rw (file-old k l) (omega (arith, W.exists k l, tasks-converted)));
      sizes = of-file (λ k. In _ (file_at K k).size)
          (λ k l. rw (file-added k l) (record { least = omega arith; most = W.work (served_at I k) (serves k l).0 }))
          (λ k l. rw (file-old k l) (W.sizes k l));
      move_times = of-file (λ k. In _ (file_at K k).move_time) (λ k l. rw (file-added k l) (record { least = omega arith; most = omega arith })) (λ k l. rw (file-old k l) (W.move_times k l));
    }
      where
        no-time : (c : Colour) → In run_times (time_on c added_task)
        no-time blue = record { least = omega arith; most = omega arith }
        no-time red = record { least = omega arith; most = omega arith }

        old-time : (c : Colour) (i : ℕ) → i < task_count I → In run_times (time_on c (without_work (task_at I i)))
        old-time blue i l = W.times blue i l
        old-time red i l = W.times red i l

  -- ---- and no task of it has W

  pub converted-idle : NoWork K
  converted-idle i = by_order i (task_count K)
      (λ l. of-task (λ j. (task_at K j).work ≡ 0) (λ j h. rw (task-added j h)) (λ j h. rw (task-old j h)) i l)
      (λ l. no-task K i l)

  -- ---- the tasks served, in their order, and each of them

  served-rise : (k : ℕ) → suc k < m → served_at I k < served_at I (suc k)
  served-rise k l =
      let a = where-nth (has_work I) (task_count I) k (omega arith) in
      let b = where-nth (has_work I) (task_count I) (suc k) l in
      elim (dec_le (served_at I (suc k)) (served_at I k)) [
        | yes h ↦ absurd (omega (arith, count-mono (has_work I) (served_at I (suc k)) (served_at I k) h, a.2, b.2))
        | no h ↦ omega arith
      ]

  served-place : (i : ℕ) → i < task_count I → 0 < work_at I i → (k : ℕ) × (k < m) × (served_at I k ≡ i)
  served-place i l w =
      let e = lt-ltb 0 (work_at I i) w in
      let c = count_yes (has_work I) i e in
      let d = count-mono (has_work I) (suc i) (task_count I) l in
      let q = length-where (has_work I) (task_count I) in
      (count_where i (has_work I), omega arith, where-place (has_work I) (task_count I) i l e)

pub shape_law : ShapeLaw
shape_law I = record {
  counted = length-where (has_work I) (task_count I);
  tasks = tasks-converted I;
  files = files-converted I;
  sides = side_same I;
  serves = λ k l. let s = serves I k l in (s.0, ltb-true _ _ s.1);
  in_order = served-rise I;
  each = served-place I;
  added_task = task-added I;
  old_task = task-old I;
  added_file = file-added I;
  old_file = file-old I;
}
