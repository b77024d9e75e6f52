-- A job and its timetable inside another: its tasks and files under other numbers, its times d ticks later. What its files and tasks do there
-- they do in the other. Serves the converted sheet (Order 7) and two jobs in a row (Order 12).
use Prim.Native.Nat.{ℕ, ◌+◌, ◌<◌}
use mathlib.Core.Bool.{Bool, true, false, cond, ◌&&◌}
use mathlib.Core.Path.{◌≡◌, refl, sym, ap, ◌∙◌}
use native.Mathlib.Omega.{arith}
use lib.Dec.{leb, ltb}
use borrow.Author.Tests.{leb-true, ltb-true, leb-false, ltb-false, le-leb, lt-leb, lt-ltb, le-ltb}
use Rattle.rules.specs.Model.{Colour, same_colour, File, Instance, task_count, file_count, task_at, work_at, file_at, size_at, move_time_at, time_on, is_placed, Schedule, run_at, start_at, move_at, colour_of, finish_at, release_of, maker_run, reader_run, moved, made_at, move_end}
use Rattle.rules.specs.Residency.{during, never, closed_hold, covers, is_held, is_work_held, work_by}
use Rattle.rules.specs.Validity.{Complete, ShareInstant, OnTime}
use Rattle.rules.specs.Promises.{Before, by_maker, by_reader, WellFormed}
use Rattle.rules.specs.Conversion.{shifted_by}
use Rattle.rules.proofs.Tests.{split}
use Rattle.rules.proofs.HoldLaws.{hold-closed}
use Rattle.rules.proofs.CompleteLaws.{maker-placed, reader-placed}

-- ---- tests of numbers that are all d later

pub leb-later : (d m n : ℕ) → leb (d + m) (d + n) ≡ leb m n
leb-later d m n = split (leb m n)
    (λ e. let l = leb-true m n e in le-leb (d + m) (d + n) (omega arith) ∙ sym e)
    (λ e. let l = leb-false m n e in lt-leb (d + m) (d + n) (omega arith) ∙ sym e)

pub ltb-later : (d m n : ℕ) → ltb (d + m) (d + n) ≡ ltb m n
ltb-later d m n = split (ltb m n)
    (λ e. let l = ltb-true m n e in lt-ltb (d + m) (d + n) (omega arith) ∙ sym e)
    (λ e. let l = ltb-false m n e in le-ltb (d + m) (d + n) (omega arith) ∙ sym e)

pub during-later : (d a b t : ℕ) {a' b' t' : ℕ} → a' ≡ d + a → b' ≡ d + b → t' ≡ d + t → covers (during a' b') t' ≡ covers (during a b) t
during-later d a b t p q r = rw (p, q, r, leb-later d a t, ltb-later d t b)

-- before its start a hold covers nothing
pub during-before : (a b t : ℕ) → t < a → covers (during a b) t ≡ false
during-before a b t l = rw (lt-leb a t l)

closed_same : {m n h g : Bool} (t b v e r : ℕ) → m ≡ n → h ≡ g → covers (closed_hold m h b v e r) t ≡ covers (closed_hold n g b v e r) t
closed_same t b v e r p q = rw (p, q)

pub closed-later : (moves here : Bool) (d b v e r t : ℕ) {b' v' e' r' t' : ℕ} → b' ≡ d + b → (moves ≡ true → v' ≡ d + v) → (moves ≡ true → e' ≡ d + e) → r' ≡ d + r → t' ≡ d + t
    → covers (closed_hold moves here b' v' e' r') t' ≡ covers (closed_hold moves here b v e r) t
closed-later true true d b v e r t pb pv pe pr pt = during-later d b e t pb (pe refl) pt
closed-later true false d b v e r t pb pv pe pr pt = during-later d v r t (pv refl) pr pt
closed-later false true d b v e r t pb pv pe pr pt = during-later d b r t pb pr pt
closed-later false false d b v e r t pb pv pe pr pt = refl

pub closed-before : (moves here : Bool) (b v e r t : ℕ) → t < b → (moves ≡ true → t < v) → covers (closed_hold moves here b v e r) t ≡ false
closed-before true true b v e r t lb lv = during-before b e t lb
closed-before true false b v e r t lb lv = during-before v r t (lv refl)
closed-before false true b v e r t lb lv = during-before b r t lb
closed-before false false b v e r t lb lv = refl

pub cond-later : (x : Bool) (d a b t : ℕ) {a' b' t' : ℕ} → a' ≡ d + a → b' ≡ d + b → t' ≡ d + t
    → covers (cond x (during a' b') never) t' ≡ covers (cond x (during a b) never) t
cond-later true d a b t p q r = during-later d a b t p q r
cond-later false d a b t p q r = refl

pub cond-before : (x : Bool) (a b t : ℕ) → t < a → covers (cond x (during a b) never) t ≡ false
cond-before true a b t l = during-before a b t l
cond-before false a b t l = refl

-- ---- one job inside another

pub record Inside (I : Instance) (P : Schedule) (K : Instance) (R : Schedule) (τ φ : ℕ → ℕ) (d : ℕ) : Type 0 where
  pub blues : K.blue_side.processors ≡ I.blue_side.processors
  pub times : (c : Colour) (i : ℕ) → i < task_count I → time_on c (task_at K (τ i)) ≡ time_on c (task_at I i)
  pub runs : (i : ℕ) → i < task_count I → (run_at R (τ i)).processor ≡ (run_at P i).processor
  pub starts : (i : ℕ) → i < task_count I → start_at R (τ i) ≡ d + start_at P i
  pub makers : (k : ℕ) → k < file_count I → (file_at K (φ k)).maker ≡ τ (file_at I k).maker
  pub readers : (k : ℕ) → k < file_count I → (file_at K (φ k)).reader ≡ τ (file_at I k).reader
  pub sizes : (k : ℕ) → k < file_count I → size_at K (φ k) ≡ size_at I k
  pub move_times : (k : ℕ) → k < file_count I → move_time_at K (φ k) ≡ move_time_at I k
  pub moves : (k : ℕ) → k < file_count I → moved I P k ≡ true → move_at R (φ k) ≡ d + move_at P k

module _ {I : Instance} {P : Schedule} {K : Instance} {R : Schedule} {τ φ : ℕ → ℕ} {d : ℕ} (W : WellFormed I) (complete : Complete I P) (N : Inside I P K R τ φ d) where
  -- ---- runs
  pub same-colour : (i : ℕ) → i < task_count I → colour_of K (run_at R (τ i)) ≡ colour_of I (run_at P i)
  same-colour i l = rw (N.runs i l, N.blues)

  pub same-placed : (i : ℕ) → i < task_count I → is_placed (run_at R (τ i)) ≡ true
  same-placed i l = rw (N.runs i l) (complete i l)

  time-later : (i : ℕ) → i < task_count I → time_on (colour_of K (run_at R (τ i))) (task_at K (τ i)) ≡ time_on (colour_of I (run_at P i)) (task_at I i)
  time-later i l = rw (same-colour i l) (N.times (colour_of I (run_at P i)) i l)

  pub finish-later : (i : ℕ) → i < task_count I → finish_at K R (τ i) ≡ d + finish_at I P i
  finish-later i l = omega (arith, time-later i l, N.starts i l)

  pub release-later : (i : ℕ) → i < task_count I → release_of K (τ i) (run_at R (τ i)) ≡ d + release_of I i (run_at P i)
  release-later i l = omega (arith, time-later i l, N.starts i l)

  -- ---- files
  maker-exists : (k : ℕ) → k < file_count I → (file_at I k).maker < task_count I
  maker-exists k l = omega (arith, W.ordered k l, W.exists k l)

  maker-colour : (k : ℕ) → k < file_count I → colour_of K (maker_run K R (φ k)) ≡ colour_of I (maker_run I P k)
  maker-colour k l = rw (N.makers k l) (same-colour (file_at I k).maker (maker-exists k l))

  reader-colour : (k : ℕ) → k < file_count I → colour_of K (reader_run K R (φ k)) ≡ colour_of I (reader_run I P k)
  reader-colour k l = rw (N.readers k l) (same-colour (file_at I k).reader (W.exists k l))

  pub moved_same : (k : ℕ) → k < file_count I → moved K R (φ k) ≡ moved I P k
  moved_same k l = rw (maker-colour k l, reader-colour k l)

  made-later : (k : ℕ) → k < file_count I → made_at K R (φ k) ≡ d + made_at I P k
  made-later k l = rw (N.makers k l) (finish-later (file_at I k).maker (maker-exists k l))

  read-later : (k : ℕ) → k < file_count I → start_at R (file_at K (φ k)).reader ≡ d + start_at P (file_at I k).reader
  read-later k l = rw (N.readers k l) (N.starts (file_at I k).reader (W.exists k l))

  move_end-later : (k : ℕ) → k < file_count I → moved I P k ≡ true → move_end K R (φ k) ≡ d + move_end I P k
  move_end-later k l m = omega (arith, N.moves k l m, N.move_times k l)

  -- a file is on time in the one exactly if it is in the other
  pub on_time-there : (k : ℕ) → k < file_count I → OnTime I P k → OnTime K R (φ k)
  on_time-there k l o =
      let s = moved_same k l in
      record {
        unmoved = λ m. omega (arith, o.unmoved (sym s ∙ m), made-later k l, read-later k l);
        made = λ m. omega (arith, o.made (sym s ∙ m), made-later k l, N.moves k l (sym s ∙ m));
        arrived = λ m. omega (arith, o.arrived (sym s ∙ m), move_end-later k l (sym s ∙ m), read-later k l);
      }

  pub on_time-here : (k : ℕ) → k < file_count I → OnTime K R (φ k) → OnTime I P k
  on_time-here k l o =
      let s = moved_same k l in
      record {
        unmoved = λ m. omega (arith, o.unmoved (s ∙ m), made-later k l, read-later k l);
        made = λ m. omega (arith, o.made (s ∙ m), made-later k l, N.moves k l m);
        arrived = λ m. omega (arith, o.arrived (s ∙ m), move_end-later k l m, read-later k l);
      }

  -- two runs share an instant in the one exactly if they do in the other
  pub share-there : (i j : ℕ) → i < task_count I → j < task_count I → ShareInstant I P i j → ShareInstant K R (τ i) (τ j)
  share-there i j li lj s = record {
    first = omega (arith, s.first, N.starts i li, finish-later j lj);
    second = omega (arith, s.second, N.starts j lj, finish-later i li);
  }

  pub share-here : (i j : ℕ) → i < task_count I → j < task_count I → ShareInstant K R (τ i) (τ j) → ShareInstant I P i j
  share-here i j li lj s = record {
    first = omega (arith, s.first, N.starts i li, finish-later j lj);
    second = omega (arith, s.second, N.starts j lj, finish-later i li);
  }

  -- ---- what the memories hold of them
  here-held : (c : Colour) (t k : ℕ) → k < file_count I
      → is_held I P c t k ≡ covers (closed_hold (moved I P k) (same_colour (colour_of I (maker_run I P k)) c) (maker_run I P k).start (move_at P k) (move_end I P k)
      (release_of I (file_at I k).reader (reader_run I P k))) t
  here-held c t k l = ap (λ h. covers h t)
      (hold-closed I (file_at I k) (maker_run I P k) (reader_run I P k) (move_at P k) c (maker-placed I W P complete k l) (reader-placed I W P complete k l))

  maker-there : (k : ℕ) → k < file_count I → is_placed (maker_run K R (φ k)) ≡ true
  maker-there k l = rw (N.makers k l) (same-placed (file_at I k).maker (maker-exists k l))

  reader-there : (k : ℕ) → k < file_count I → is_placed (reader_run K R (φ k)) ≡ true
  reader-there k l = rw (N.readers k l) (same-placed (file_at I k).reader (W.exists k l))

  there-held : (c : Colour) (t k : ℕ) → k < file_count I
      → is_held K R c t (φ k) ≡ covers (closed_hold (moved I P k) (same_colour (colour_of I (maker_run I P k)) c) (maker_run K R (φ k)).start (move_at R (φ k)) (move_end K R (φ k))
      (release_of K (file_at K (φ k)).reader (reader_run K R (φ k)))) t
  there-held c t k l =
      ap (λ h. covers h t) (hold-closed K (file_at K (φ k)) (maker_run K R (φ k)) (reader_run K R (φ k)) (move_at R (φ k)) c (maker-there k l) (reader-there k l))
      ∙ closed_same t _ _ _ _ (moved_same k l) (ap (λ x. same_colour x c) (maker-colour k l))

  start-later : (k : ℕ) → k < file_count I → (maker_run K R (φ k)).start ≡ d + (maker_run I P k).start
  start-later k l = rw (N.makers k l) (N.starts (file_at I k).maker (maker-exists k l))

  released-later : (k : ℕ) → k < file_count I
      → release_of K (file_at K (φ k)).reader (reader_run K R (φ k)) ≡ d + release_of I (file_at I k).reader (reader_run I P k)
  released-later k l = rw (N.readers k l) (release-later (file_at I k).reader (W.exists k l))

  -- a file is held d ticks later,
  pub held-later : (c : Colour) (t k : ℕ) {t' : ℕ} → k < file_count I → t' ≡ d + t → is_held K R c t' (φ k) ≡ is_held I P c t k
  held-later c t k {t'} l e =
      there-held c t' k l
      ∙ closed-later (moved I P k) (same_colour (colour_of I (maker_run I P k)) c) d _ _ _ _ t (start-later k l) (N.moves k l) (move_end-later k l) (released-later k l) e
      ∙ sym (here-held c t k l)

  -- and not before
  pub held-before : (c : Colour) (t k : ℕ) → k < file_count I → t < d → is_held K R c t (φ k) ≡ false
  held-before c t k l e =
      there-held c t k l
      ∙ closed-before (moved I P k) (same_colour (colour_of I (maker_run I P k)) c) _ _ _ _ t (omega (arith, start-later k l)) (λ m. omega (arith, N.moves k l m))

  -- so is working memory, where it is the same
  pub work-later : (c : Colour) (t i : ℕ) {t' : ℕ} → i < task_count I → work_at K (τ i) ≡ work_at I i → t' ≡ d + t → is_work_held K R c t' (τ i) ≡ is_work_held I P c t i
  unfolding work_by
  work-later c t i {t'} l w e =
      let r = run_at P i in
      let q = run_at R (τ i) in
      ap (λ x. covers (cond x (during q.start (release_of K (τ i) q)) never) t') (there-worked i c l w)
      ∙ cond-later (is_placed r && same_colour (colour_of I r) c && ltb 0 (work_at I i)) d r.start (release_of I i r) t (N.starts i l) (release-later i l) e
    where
      there-worked : (i : ℕ) (c : Colour) → i < task_count I → work_at K (τ i) ≡ work_at I i
          → is_placed (run_at R (τ i)) && same_colour (colour_of K (run_at R (τ i))) c && ltb 0 (work_at K (τ i))
          ≡ is_placed (run_at P i) && same_colour (colour_of I (run_at P i)) c && ltb 0 (work_at I i)
      there-worked i c l w = rw (w, same-placed i l, complete i l, same-colour i l)

  pub work-before : (c : Colour) (t i : ℕ) → i < task_count I → t < d → is_work_held K R c t (τ i) ≡ false
  unfolding work_by
  work-before c t i l e =
      let q = run_at R (τ i) in
      cond-before (is_placed q && same_colour (colour_of K q) c && ltb 0 (work_at K (τ i))) q.start (release_of K (τ i) q) t (omega (arith, N.starts i l))

-- ---- files of tasks that are counted from m on keep their order

pub later-before : (f g : File) (m : ℕ) → Before f g → Before (shifted_by m f) (shifted_by m g)
later-before f g m (by_maker l) = by_maker (omega arith)
later-before f g m (by_reader e l) = by_reader (omega arith) (omega arith)
