-- Order 7, the other way round: a valid timetable of the original, with each added task run where and when the task that it serves starts, is valid for the
-- converted job, with the same claim. An added file is then held exactly while W is.
use Prim.Native.Nat.{ℕ, ◌+◌, ◌≤◌, ◌<◌}
use mathlib.Core.Bool.{Bool, true, false, cond}
use mathlib.Core.Path.{◌≡◌, refl, sym, ap, ◌∙◌}
use native.Mathlib.Omega.{arith}
use native.Mathlib.Nat.{zero-add}
use native.Mathlib.Decide.{ℕ_discrete}
use lib.Dec.{ltb}
use lib.ListN.{length, replicate, length-append, length-replicate, get_or-replicate, get_or-append}
use lib.Seq.{get_or-append-add}
use Rattle.rules.specs.Count.{list_below}
use Rattle.rules.specs.Limits.{ticks}
use Rattle.rules.specs.Model.{Colour, blue, red, same_colour, Instance, task_count, file_count, work_at, file_at, size_at, is_placed, Schedule}
use Rattle.rules.specs.Model.{run_at, start_at, move_at, colour_of, finish_at, release_of, maker_run, reader_run, moved, move_end}
use Rattle.rules.specs.Residency.{during, never, closed_hold, covers, files_held, work_held, held, is_held, is_work_held, work_by}
use Rattle.rules.specs.Validity.{Complete, Claim, ShareInstant, OnTime, Greatest, Apart, AllOnTime, WithinLimits, Valid}
use Rattle.rules.specs.ScheduleText.{processor_numbers}
use Rattle.rules.specs.Promises.{In, WellFormed, Spellable}
use Rattle.rules.specs.Conversion.{has_work, added_count, served_at, converted, extended}
use Rattle.rules.proofs.Tests.{clash, and_no, and_yes}
use Rattle.rules.proofs.CountLaws.{sum-cong, length-list_below, get_or-list_below}
use Rattle.rules.proofs.WhereLaws.{where-sum}
use Rattle.rules.proofs.HoldLaws.{hold-closed}
use Rattle.rules.proofs.WorkLaws.{files_alone_law}
use Rattle.rules.proofs.CompleteLaws.{spellable-complete, maker-placed, reader-placed}
use Rattle.rules.proofs.AppendLaws.{sum-append}
use Rattle.rules.proofs.InsideLaws.{Inside, moved_same, finish-later, release-later, on_time-there, share-here, held-later}
use Rattle.rules.proofs.ConversionLaws.{tasks-converted, files-converted, time-old, time-added, file-added, file-old, blues-same, limit-same}
use Rattle.rules.proofs.ConversionLaws.{processors-same, serves, of-task, of-file, converted-idle}

colour-self : (x : Colour) → same_colour x x ≡ true
colour-self blue = refl
colour-self red = refl

-- the hold of a file that does not move
unmoved-hold : (here : Bool) (b v e r t : ℕ) → covers (closed_hold false here b v e r) t ≡ covers (cond here (during b r) never) t
unmoved-hold true b v e r t = refl
unmoved-hold false b v e r t = refl

module _ (I : Instance) (P : Schedule) (claim : Claim) (W : WellFormed I) (WK : WellFormed (converted I)) (S : Spellable I P claim) (valid : Valid I P claim) where
  abbrev K : Instance
  K = converted I

  abbrev m : ℕ
  m = added_count I

  abbrev R : Schedule
  R = extended I P

  run-added : (k : ℕ) → k < m → run_at R k ≡ run_at P (served_at I k)
  unfolding extended
  run-added k l =
      get_or-append (list_below m (λ k. run_at P (served_at I k))) _ _ k (rw (length-list_below m (λ k. run_at P (served_at I k))) l)
      ∙ get_or-list_below m (λ k. run_at P (served_at I k)) k _ l

  run-old : (i : ℕ) → run_at R (m + i) ≡ run_at P i
  unfolding extended
  run-old i =
      ap (λ n. run_at R (n + i)) (sym (length-list_below m (λ k. run_at P (served_at I k))))
      ∙ get_or-append-add (list_below m (λ k. run_at P (served_at I k))) _ i _

  move-added : (k : ℕ) → k < m → move_at R k ≡ 0
  unfolding extended
  move-added k l = get_or-append (replicate m 0) _ _ k (rw (length-replicate {A = ℕ} m 0) l) ∙ get_or-replicate {A = ℕ} m k 0 _ l

  move-old : (k : ℕ) → move_at R (m + k) ≡ move_at P k
  unfolding extended
  move-old k = ap (λ n. move_at R (n + k)) (sym (length-replicate {A = ℕ} m 0)) ∙ get_or-append-add (replicate m 0) _ k _

  inside : Inside I P K R (λ i. m + i) (λ k. m + k) 0
  inside = record {
    blues = blues-same I;
    times = time-old I;
    runs = λ i l. ap (λ r. r.processor) (run-old i);
    starts = λ i l. ap (λ r. r.start) (run-old i) ∙ sym (zero-add (start_at P i));
    makers = λ k l. ap (λ f. f.maker) (file-old I k l);
    readers = λ k l. ap (λ f. f.reader) (file-old I k l);
    sizes = λ k l. ap (λ f. f.size) (file-old I k l);
    move_times = λ k l. ap (λ f. f.move_time) (file-old I k l);
    moves = λ k l q. move-old k ∙ sym (zero-add (move_at P k));
  }

  placed : Complete I P
  placed = spellable-complete I P claim S

  all_placed : Complete K R
  all_placed = of-task I (λ i. is_placed (run_at R i) ≡ true) (λ k l. rw (run-added k l) (placed (served_at I k) (serves I k l).0)) (λ i l. rw (run-old i) (placed i l))

  -- ---- the added runs take no time

  start-added : (k : ℕ) → k < m → start_at R k ≡ start_at P (served_at I k)
  start-added k l = ap (λ r. r.start) (run-added k l)

  finish-added : (k : ℕ) → k < m → finish_at K R k ≡ start_at P (served_at I k)
  finish-added k l = omega (arith, start-added k l, time-added I (colour_of K (run_at R k)) k l)

  finish-old : (i : ℕ) → i < task_count I → finish_at K R (m + i) ≡ finish_at I P i
  finish-old i l = finish-later W placed inside i l ∙ zero-add (finish_at I P i)

  start-old : (i : ℕ) → start_at R (m + i) ≡ start_at P i
  start-old i = ap (λ r. r.start) (run-old i)

  -- so they share no instant with another run
  beside : (k j : ℕ) → k < m → j < task_count I → (run_at R k).processor ≡ (run_at R (m + j)).processor
      → start_at R k < finish_at K R (m + j) → start_at R (m + j) < finish_at K R k → ⊥
  beside k j lk lj e p q =
      let i = served_at I k in
      let si : start_at R k ≡ start_at P i = start-added k lk in
      let fi : finish_at K R k ≡ start_at P i = finish-added k lk in
      let sj : start_at R (m + j) ≡ start_at P j = start-old j in
      let fj : finish_at K R (m + j) ≡ finish_at I P j = finish-old j lj in
      elim (ℕ_discrete i j) [
        | yes h ↦ let s : start_at P i ≡ start_at P j = ap (start_at P) h in omega arith
        | no h ↦
            valid.apart i j (serves I k lk).0 lj h (sym (ap (λ r. r.processor) (run-added k lk)) ∙ e ∙ ap (λ r. r.processor) (run-old j))
            (record { first = omega arith; second = omega arith })
      ]

  abbrev Beside : ℕ → ℕ → Type 0
  Beside i j = (i ≡ j → ⊥) → (run_at R i).processor ≡ (run_at R j).processor → ShareInstant K R i j → ⊥

  apart : Apart K R
  apart i j li lj = of-task I (λ i. Beside i j) (λ k lk. added-apart k lk j lj) (λ x lx. old_apart x lx j lj) i li
    where
      added-apart : (k : ℕ) → k < m → (j : ℕ) → j < task_count K → Beside k j
      added-apart k lk = of-task I (Beside k)
          (λ l ll ne e s. omega (arith, s.first, s.second, start-added k lk, start-added l ll, finish-added k lk, finish-added l ll))
          (λ j lj ne e s. beside k j lk lj e s.first s.second)

      old_apart : (i : ℕ) → i < task_count I → (j : ℕ) → j < task_count K → Beside (m + i) j
      old_apart i li = of-task I (Beside (m + i))
          (λ k lk ne e s. beside k i lk li (sym e) s.second s.first)
          (λ j lj ne e s. valid.apart i j li lj (λ q. ne (ap (λ x. m + x) q)) (sym (ap (λ r. r.processor) (run-old i)) ∙ e ∙ ap (λ r. r.processor) (run-old j))
          (share-here W placed inside i j li lj s))

  -- ---- an added file does not move, and is on time

  maker-added : (k : ℕ) → k < m → maker_run K R k ≡ run_at P (served_at I k)
  maker-added k l = ap (λ f. run_at R f.maker) (file-added I k l) ∙ run-added k l

  reader-added : (k : ℕ) → k < m → reader_run K R k ≡ run_at P (served_at I k)
  reader-added k l = ap (λ f. run_at R f.reader) (file-added I k l) ∙ run-old (served_at I k)

  moved-added : (k : ℕ) → k < m → moved K R k ≡ false
  moved-added k l = rw (maker-added k l, reader-added k l, colour-self (colour_of K (run_at P (served_at I k))))

  added-on_time : (k : ℕ) → k < m → OnTime K R k
  added-on_time k l = record {
    unmoved = λ _. omega (arith, ap (λ f. finish_at K R f.maker) (file-added I k l), finish-added k l, ap (λ r. r.start) (reader-added k l));
    made = λ q. clash q (moved-added k l);
    arrived = λ q. clash q (moved-added k l);
  }

  on_time : AllOnTime K R
  on_time = of-file I (OnTime K R) added-on_time (λ k l. on_time-there W placed inside k l (valid.on_time k l))

  -- ---- it is held exactly while W is

  module _ (c : Colour) (t : ℕ) where
    added-held : (k : ℕ) → k < m → is_held K R c t k ≡ is_work_held I P c t (served_at I k)
    unfolding work_by
    added-held k l =
        let i = served_at I k in
        let r = run_at P i in
        let li = (serves I k l).0 in
        let lk : k < file_count K = omega (arith, files-converted I) in
        let reader : (file_at K k).reader ≡ m + i = ap (λ f. f.reader) (file-added I k l) in
        let until : release_of K (file_at K k).reader (reader_run K R k) ≡ release_of I i r =
        ap (λ j. release_of K j (run_at R j)) reader ∙ release-later W placed inside i li ∙ zero-add (release_of I i r) in
        ap (λ h. covers h t)
        (hold-closed K (file_at K k) (maker_run K R k) (reader_run K R k) (move_at R k) c (maker-placed K WK R all_placed k lk) (reader-placed K WK R all_placed k lk))
        ∙ rw (moved-added k l, until, maker-added k l, blues-same I, placed i li, (serves I k l).1, and_yes)
        (unmoved-hold (same_colour (colour_of I r) c) r.start (move_at R k) (move_end K R k) (release_of I i r) t)

    abbrev file_held : ℕ → ℕ
    file_held k = cond (is_held K R c t k) (size_at K k) 0

    abbrev work_part : ℕ → ℕ
    work_part i = cond (is_work_held I P c t i) (work_at I i) 0

    added-same : (k : ℕ) → k < m → file_held k ≡ work_part (served_at I k)
    added-same k l = rw (added-held k l, ap (λ f. f.size) (file-added I k l))

    old-same : (k : ℕ) → k < file_count I → file_held (m + k) ≡ cond (is_held I P c t k) (size_at I k) 0
    old-same k l = rw (held-later W placed inside c t k l (sym (zero-add t)), inside.sizes k l)

    idle : (i : ℕ) → ltb 0 (work_at I i) ≡ false → work_part i ≡ 0
    unfolding work_by
    idle i e = rw (e, and_no)

    files-same : files_held K R c t ≡ held I P c t
    unfolding held files_held work_held
    files-same =
        rw (files-converted I)
        (omega (
          arith,
          sum-append m (file_count I) file_held,
          sum-cong (file_count I) (λ k. file_held (m + k)) _ old-same,
          where-sum (has_work I) (task_count I) work_part idle,
          sum-cong m file_held (λ k. work_part (served_at I k)) added-same,
        ))

    pub held_same : held K R c t ≡ held I P c t
    held_same = (files_alone_law K (converted-idle I) R c).total t ∙ files-same

  -- ---- valid, with the same claim

  within : WithinLimits K R
  within c t = omega (arith, held_same c t, valid.within c t, limit-same I c)

  span : Greatest (λ i. i < task_count K) (finish_at K R) claim.span
  span = record {
    bound = of-task I (λ i. finish_at K R i ≤ claim.span)
        (λ k l. omega (arith, finish-added k l, valid.claim_true.span.bound (served_at I k) (serves I k l).0))
        (λ i l. omega (arith, finish-old i l, valid.claim_true.span.bound i l));
    reached = let (i, l, e) = valid.claim_true.span.reached in (m + i, omega (arith, tasks-converted I), finish-old i l ∙ e);
  }

  peak : (c : Colour) (n : ℕ) → Greatest (λ t. Unit {0}) (held I P c) n → Greatest (λ t. Unit {0}) (held K R c) n
  peak c n g = record {
    bound = λ t u. omega (arith, held_same c t, g.bound t u);
    reached = let (t, u, e) = g.reached in (t, u, held_same c t ∙ e);
  }

  pub extended-valid : Valid K R claim
  extended-valid = record {
    apart = apart;
    on_time = on_time;
    within = within;
    claim_true = record {
      span = span;
      blue_peak = peak blue claim.blue_peak valid.claim_true.blue_peak;
      red_peak = peak red claim.red_peak valid.claim_true.red_peak;
    };
  }

  -- ---- and it can be spelled

  runs-length : length R.runs ≡ task_count K
  unfolding extended
  runs-length = omega (
    arith,
    length-append (list_below m (λ k. run_at P (served_at I k))) P.runs,
    length-list_below m (λ k. run_at P (served_at I k)),
    S.runs,
    tasks-converted I,
  )

  moves-length : length R.moves ≡ file_count K
  unfolding extended
  moves-length = omega (arith, length-append (replicate m 0) P.moves, length-replicate {A = ℕ} m 0, S.moves, files-converted I)

  processor-range : (i : ℕ) → i < task_count I → In (processor_numbers K) (run_at P i).processor
  processor-range i l = let s = S.processors i l in record { least = s.least; most = omega (arith, s.most, processors-same I) }

  pub extended-spelled : Spellable K R claim
  extended-spelled = record {
    runs = runs-length;
    moves = moves-length;
    processors = of-task I (λ i. In (processor_numbers K) (run_at R i).processor)
        (λ k l. rw (run-added k l) (processor-range (served_at I k) (serves I k l).0))
        (λ i l. rw (run-old i) (processor-range i l));
    starts = of-task I (λ i. In ticks (run_at R i).start)
        (λ k l. rw (run-added k l) (S.starts (served_at I k) (serves I k l).0))
        (λ i l. rw (run-old i) (S.starts i l));
    move_starts = of-file I (λ k. In ticks (move_at R k))
        (λ k l. rw (move-added k l) (record { least = omega arith; most = omega arith }))
        (λ k l. rw (move-old k) (S.move_starts k l));
    unmoved = of-file I (λ k. moved K R k ≡ false → move_at R k ≡ 0)
        (λ k l e. move-added k l)
        (λ k l e. move-old k ∙ S.unmoved k l (sym (moved_same W placed inside k l) ∙ e));
    span = S.span;
    blue_peak = S.blue_peak;
    red_peak = S.red_peak;
  }
