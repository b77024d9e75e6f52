-- Order 7, what is left of a timetable of the converted job: stripped_law; of a valid one it is valid for the original. Each added file is held, in the
-- memory of the task that it serves, at least while that task's W is.
use Prim.Native.Nat.{ℕ, ◌+◌, ◌≤◌, ◌<◌}
use mathlib.Core.Bool.{Bool, true, false, not, cond, ◌&&◌}
use mathlib.Core.Path.{◌≡◌, refl, sym, ap, ◌∙◌}
use native.Mathlib.Omega.{arith}
use native.Mathlib.Nat.{zero-add}
use lib.Dec.{leb, ltb}
use lib.ListN.{length, length-drop}
use lib.Seq.{get_or-drop}
use borrow.Author.Tests.{ltb-true, leb-true, le-leb, lt-ltb}
use Rattle.rules.specs.Limits.{ticks}
use Rattle.rules.specs.Model.{Colour, blue, red, same_colour, Instance, task_count, file_count, work_at, file_at, size_at, is_placed, Schedule, run_at, start_at, move_at, colour_of, finish_at, release_of, maker_run, reader_run, moved, made_at, move_end, unplaced}
use Rattle.rules.specs.Residency.{during, never, closed_hold, covers, files_held, work_held, held, is_held, is_work_held, work_by}
use Rattle.rules.specs.Validity.{Complete, Claim, Greatest, Apart, AllOnTime, WithinLimits, Valid, makespan, peak, true_claim}
use Rattle.rules.specs.Promises.{In, WellFormed, Spellable}
use Rattle.rules.specs.Conversion.{has_work, added_count, served_at, converted, stripped}
use Rattle.rules.specs.ConversionPromises.{StrippedLaw}
use Rattle.rules.proofs.Tests.{split, clash, and-true, and_no}
use Rattle.rules.proofs.CountLaws.{sum-cong, sum_mono, max-bound, max-under}
use Rattle.rules.proofs.HoldLaws.{hold-closed}
use Rattle.rules.proofs.CompleteLaws.{spellable-complete, maker-placed, reader-placed, peak-greatest, true-claimed}
use Rattle.rules.proofs.AppendLaws.{sum-append}
use Rattle.rules.proofs.InsideLaws.{Inside, same-colour, moved_same, finish-later, release-later, on_time-here, share-there, held-later}
use Rattle.rules.proofs.WhereLaws.{where-sum}
use Rattle.rules.proofs.ConversionLaws.{tasks-converted, files-converted, time-old, blues-same, file-added, file-old, limit-same, processors-same, serves, of-task}

-- ---- holds

-- when a hold that depends on a test covers a tick
cond-covers : (x : Bool) (a b t : ℕ) → covers (cond x (during a b) never) t ≡ true → (x ≡ true) × (a ≤ t) × (t < b)
cond-covers true a b t h = let r = and-true (leb a t) _ h in (refl, leb-true a t r.0, ltb-true t b r.1)
cond-covers false a b t h = clash h refl

during-covers : (a b t : ℕ) → a ≤ t → t < b → covers (during a b) t ≡ true
during-covers a b t p q = rw (le-leb a t p, lt-ltb t b q)

-- a file is held in its reader's memory from its start there until its release; x is the maker's colour, y the reader's
reader-covers : (x y c : Colour) (b v e r t : ℕ) → same_colour y c ≡ true → (not (same_colour x y) ≡ false → b ≤ t) → (not (same_colour x y) ≡ true → v ≤ t) → t < r
    → covers (closed_hold (not (same_colour x y)) (same_colour x c) b v e r) t ≡ true
reader-covers blue blue blue b v e r t h p q l = during-covers b r t (p refl) l
reader-covers red blue blue b v e r t h p q l = during-covers v r t (q refl) l
reader-covers blue red red b v e r t h p q l = during-covers v r t (q refl) l
reader-covers red red red b v e r t h p q l = during-covers b r t (p refl) l
reader-covers x blue red b v e r t h p q l = clash h refl
reader-covers x red blue b v e r t h p q l = clash h refl

module _ (I : Instance) (P : Schedule) (claim : Claim) (W : WellFormed I) (WK : WellFormed (converted I)) (S : Spellable (converted I) P claim) (valid : Valid (converted I) P claim) where
  abbrev K : Instance
  K = converted I

  abbrev m : ℕ
  m = added_count I

  abbrev left : Schedule
  left = stripped I P

  run-left : (i : ℕ) → run_at left i ≡ run_at P (m + i)
  unfolding stripped
  run-left i = get_or-drop m P.runs i unplaced

  move-left : (k : ℕ) → move_at left k ≡ move_at P (m + k)
  unfolding stripped
  move-left k = get_or-drop m P.moves k 0

  pub left-inside : Inside I left K P (λ i. m + i) (λ k. m + k) 0
  left-inside = record {
    blues = blues-same I;
    times = time-old I;
    runs = λ i l. sym (ap (λ r. r.processor) (run-left i));
    starts = λ i l. sym (ap (λ r. r.start) (run-left i)) ∙ sym (zero-add (start_at left i));
    makers = λ k l. ap (λ f. f.maker) (file-old I k l);
    readers = λ k l. ap (λ f. f.reader) (file-old I k l);
    sizes = λ k l. ap (λ f. f.size) (file-old I k l);
    move_times = λ k l. ap (λ f. f.move_time) (file-old I k l);
    moves = λ k l q. sym (move-left k) ∙ sym (zero-add (move_at left k));
  }

  all_placed : Complete K P
  all_placed = spellable-complete K P claim S

  pub left-placed : Complete I left
  left-placed i l = rw (run-left i) (all_placed (m + i) (omega (arith, tasks-converted I)))

  -- ---- an added file is held while the working memory is

  added-held : (c : Colour) (t k : ℕ) → k < m → is_work_held I left c t (served_at I k) ≡ true → is_held K P c t k ≡ true
  unfolding work_by
  added-held c t k l h =
      let i = served_at I k in
      let r = run_at left i in
      let li = (serves I k l).0 in
      let lk : k < file_count K = omega (arith, files-converted I) in
      let x = cond-covers (is_placed r && same_colour (colour_of I r) c && ltb 0 (work_at I i)) r.start (release_of I i r) t h in
      let here = (and-true (is_placed r) _ (and-true (is_placed r && same_colour (colour_of I r) c) _ x.0).0).1 in
      let e : (file_at K k).reader ≡ m + i = ap (λ f. f.reader) (file-added I k l) in
      let o = valid.on_time k lk in
      let s : start_at P (file_at K k).reader ≡ start_at left i = ap (start_at P) e ∙ sym (ap (λ r. r.start) (run-left i)) in
      let q : release_of K (file_at K k).reader (reader_run K P k) ≡ release_of I i r =
      ap (λ j. release_of K j (run_at P j)) e ∙ release-later W left-placed left-inside i li ∙ zero-add (release_of I i r) in
      let y : same_colour (colour_of K (reader_run K P k)) c ≡ true =
      ap (λ j. same_colour (colour_of K (run_at P j)) c) e ∙ ap (λ d. same_colour d c) (same-colour W left-placed left-inside i li) ∙ here in
      ap (λ d. covers d t)
      (hold-closed K (file_at K k) (maker_run K P k) (reader_run K P k) (move_at P k) c (maker-placed K WK P all_placed k lk) (reader-placed K WK P all_placed k lk))
      ∙ reader-covers (colour_of K (maker_run K P k)) (colour_of K (reader_run K P k)) c (maker_run K P k).start (move_at P k) (move_end K P k)
      (release_of K (file_at K k).reader (reader_run K P k)) t y
      (λ n. omega (arith, o.unmoved n, x.1)) (λ n. omega (arith, o.arrived n, x.1)) (omega (arith, x.2))

  -- ---- so no less is held than the original holds

  module _ (c : Colour) (t : ℕ) where
    abbrev file_held : ℕ → ℕ
    file_held k = cond (is_held K P c t k) (size_at K k) 0

    abbrev work_part : ℕ → ℕ
    work_part i = cond (is_work_held I left c t i) (work_at I i) 0

    old-same : (k : ℕ) → k < file_count I → file_held (m + k) ≡ cond (is_held I left c t k) (size_at I k) 0
    old-same k l = rw (held-later W left-placed left-inside c t k l (sym (zero-add t)), left-inside.sizes k l)

    added_more : (k : ℕ) → k < m → work_part (served_at I k) ≤ file_held k
    added_more k l = split (is_work_held I left c t (served_at I k))
        (λ e. rw (e, added-held c t k l e) (omega (arith, ap (λ f. f.size) (file-added I k l))))
        (λ e. rw e (omega arith))

    idle : (i : ℕ) → ltb 0 (work_at I i) ≡ false → work_part i ≡ 0
    unfolding work_by
    idle i e = rw (e, and_no)

    pub held-less : held I left c t ≤ held K P c t
    unfolding held files_held work_held
    held-less =
        rw (files-converted I)
        (omega (
          arith,
          sum-append m (file_count I) file_held,
          sum-cong (file_count I) (λ k. file_held (m + k)) _ old-same,
          where-sum (has_work I) (task_count I) work_part idle,
          sum_mono m (λ k. work_part (served_at I k)) file_held added_more,
        ))

  -- ---- valid, with its claim worked out afresh

  apart-left : Apart I left
  apart-left i j li lj ne e s =
      valid.apart (m + i) (m + j) (omega (arith, tasks-converted I)) (omega (arith, tasks-converted I)) (λ q. ne (omega arith))
      (left-inside.runs i li ∙ e ∙ sym (left-inside.runs j lj)) (share-there W left-placed left-inside i j li lj s)

  on_time-left : AllOnTime I left
  on_time-left k l = on_time-here W left-placed left-inside k l (valid.on_time (m + k) (omega (arith, files-converted I)))

  within-left : WithinLimits I left
  within-left c t = omega (arith, held-less c t, valid.within c t, limit-same I c)

  pub left-valid : Valid I left (true_claim I left)
  left-valid = record {
    apart = apart-left;
    on_time = on_time-left;
    within = within-left;
    claim_true = true-claimed I W left left-placed;
  }

  -- ---- the span stays, since an added run is over when its reader starts; and no peak grows

  added-early : (k : ℕ) → k < m → finish_at K P k ≤ finish_at K P (m + served_at I k)
  added-early k l =
      let lk : k < file_count K = omega (arith, files-converted I) in
      let o = valid.on_time k lk in
      let made : made_at K P k ≡ finish_at K P k = ap (λ f. finish_at K P f.maker) (file-added I k l) in
      let start : start_at P (file_at K k).reader ≡ start_at P (m + served_at I k) = ap (λ f. start_at P f.reader) (file-added I k l) in
      split (moved K P k) (λ e. omega (arith, o.made e, o.arrived e)) (λ e. omega (arith, o.unmoved e))

  old-span : (i : ℕ) → i < task_count I → finish_at K P (m + i) ≤ makespan I left
  unfolding makespan
  old-span i l = omega (arith, finish-later W left-placed left-inside i l, max-bound (task_count I) (finish_at I left) i l)

  pub left-span : makespan I left ≡ claim.span
  unfolding makespan
  left-span =
      let (x, l, e) = valid.claim_true.span.reached in
      let most : finish_at K P x ≤ makespan I left =
      of-task I (λ i. finish_at K P i ≤ makespan I left) (λ k lk. omega (arith, added-early k lk, old-span (served_at I k) (serves I k lk).0)) old-span x l in
      omega (
        arith,
        max-under (task_count I) (finish_at I left) claim.span (λ i li.
            omega (arith, finish-later W left-placed left-inside i li, valid.claim_true.span.bound (m + i) (omega (arith, tasks-converted I)))),
      )

  left-peak : (c : Colour) (n : ℕ) → Greatest (λ t. Unit {0}) (held K P c) n → peak I left c ≤ n
  left-peak c n g =
      let (t, u, e) = (peak-greatest I W left left-placed c).reached in
      omega (arith, held-less c t, g.bound t u)

  pub left-blue : peak I left blue ≤ claim.blue_peak
  left-blue = left-peak blue claim.blue_peak valid.claim_true.blue_peak

  pub left-red : peak I left red ≤ claim.red_peak
  left-red = left-peak red claim.red_peak valid.claim_true.red_peak

  -- ---- and it can be spelled

  runs-length : length left.runs ≡ task_count I
  unfolding stripped
  runs-length = omega (arith, length-drop m P.runs, S.runs, tasks-converted I)

  moves-length : length left.moves ≡ file_count I
  unfolding stripped
  moves-length = omega (arith, length-drop m P.moves, S.moves, files-converted I)

  old-task : (i : ℕ) → i < task_count I → m + i < task_count K
  old-task i l = omega (arith, tasks-converted I)

  old-file : (k : ℕ) → k < file_count I → m + k < file_count K
  old-file k l = omega (arith, files-converted I)

  span-range : In ticks (makespan I left)
  span-range = rw left-span S.span

  peak-range : (c : Colour) → In ticks (peak I left c)
  peak-range c =
      let g = (peak-greatest I W left left-placed c).reached in
      record { least = omega arith; most = omega (arith, g.2, within-left c g.0, (W.limits c).most) }

  pub left-spelled : Spellable I left (true_claim I left)
  unfolding true_claim
  left-spelled = record {
    runs = runs-length;
    moves = moves-length;
    processors = λ i l. let e = run-left i in let s = S.processors (m + i) (old-task i l) in rw e (record { least = s.least; most = omega (arith, s.most, processors-same I) });
    starts = λ i l. rw (run-left i) (S.starts (m + i) (old-task i l));
    move_starts = λ k l. rw (move-left k) (S.move_starts (m + k) (old-file k l));
    unmoved = λ k l e. move-left k ∙ S.unmoved (m + k) (old-file k l) (moved_same W left-placed left-inside k l ∙ e);
    span = span-range;
    blue_peak = peak-range blue;
    red_peak = peak-range red;
  }

pub stripped_law : StrippedLaw
unfolding stripped
stripped_law I P = ((λ i. get_or-drop (added_count I) P.runs i unplaced), (λ k. get_or-drop (added_count I) P.moves k 0))
