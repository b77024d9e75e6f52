-- Old papers keep their marks, line by line: the former widths read what is read now, or refuse a number too long or too large.
use Prim.Native.Nat.{ℕ, ◌^◌, ◌≤◌, ◌<◌}
use mathlib.Core.Path.{◌≡◌, refl, sym, ap, ◌∙◌}
use mathlib.Core.Bool.{Bool, true, false}
use mathlib.Core.List.{List}
use mathlib.Core.Option.{Option, none, some}
use native.Mathlib.Omega.{arith}
use lib.ListN.{length, get_or}
use Rattle.rules.specs.Limits.{max_digits, Range, task_numbers, file_sizes, work_sizes, run_times, move_times, ticks, current, former, in_range}
use Rattle.rules.specs.Model.{Colour, blue, red, Task, time_on, Instance}
use Rattle.rules.specs.Text.{malformed, out_of_range, Line, ended, unended, scan_by, scan, fill, Reading, wrong, right, if_in_range, or_else, due}
use Rattle.rules.specs.InstanceText.{board_form, task_form, work_form, file_form, InstanceLine, task_line, file_line, as_board, as_task_by, as_task, as_work_by, as_work, as_file_by, as_file}
use Rattle.rules.specs.InstanceText.{instance_line_by, instance_line}
use Rattle.rules.specs.ScheduleText.{run_form, move_form, claim_form, as_run_by, as_move_by, as_claim_by, schedule_line_by, schedule_line}
use Rattle.rules.specs.Promises.{In}
use Rattle.rules.specs.FinerTicks.{sheet_forms, timetable_forms, OneOf, LongNumber}
use Rattle.rules.proofs.Tests.{by_order, clash}
use Rattle.rules.proofs.FormLaws.{numbers, Numerals, scan-only}
use Rattle.rules.proofs.ReadingLaws.{tested-3, tested-4, in-tested}
use Rattle.rules.proofs.InstanceLineLaws.{as-task, as-work, as-file, no-board-task, no-board-work, no-board-file, no-task-work, no-task-file, no-work-file}
use Rattle.rules.proofs.WidthLaws.{former_digits, numerals-at, Exclusive, exclusive, reversed, Alike, Unread, Agree, agree, too_long, agreed}

-- the reading x of a line by the former widths, and y by the widths now
pub data Kept (Long Large : Type 0) {A : Type 0} (x y : Reading A) : Type 0 where
  is_long : x ≡ wrong malformed → Long → Kept Long Large x y
  is_large : x ≡ wrong out_of_range → Large → Kept Long Large x y
  is_same : x ≡ y → Kept Long Large x y

module _ {Long Large : Type 0} {A : Type 0} where
  or_kept : (f g : List ℕ → Reading A) (o : Option (List ℕ)) (x y : Reading A) → ((vs : List ℕ) → o ≡ some vs → Kept Long Large (f vs) (g vs))
      → (o ≡ none → Kept Long Large x y) → Kept Long Large (or_else f o x) (or_else g o y)
  or_kept f g none x y h k = k refl
  or_kept f g (some vs) x y h k = h vs refl

  range-kept : (a : A) (old new : Bool) → (old ≡ true → new ≡ true) → (old ≡ false → new ≡ true → Large) → Kept Long Large (if_in_range old a) (if_in_range new a)
  range-kept a true new h g = let e = h refl in rw e (is_same refl)
  range-kept a false true h g = is_large refl (g refl refl)
  range-kept a false false h g = is_same refl

  pub due-kept : {B : Type 0} (f : A → Option B) (x y : Reading A) → Kept Long Large x y → Kept Long Large (due f x) (due f y)
  due-kept f x y (is_long e h) = is_long (ap (due f) e) h
  due-kept f x y (is_large e h) = is_large (ap (due f) e) h
  due-kept f x y (is_same e) = is_same (ap (due f) e)

-- a range that became wider
module _ (r s : Range) (n : ℕ) (least : r.least ≡ s.least) where
  wider : r.most ≤ s.most → In r n → In s n
  wider m h = record { least = omega (arith, h.least); most = omega (arith, h.most) }

-- ---- a line of a board sheet

-- a line has one of the forms, with a number too long
abbrev pub LongIn : List (List ℕ) → Line → Type 0
LongIn fs l = (form : List ℕ) × OneOf fs form × LongNumber form l

-- a line is readable now, with a time too large
pub data LargeTime (l : Line) : Type 0 where
  of_run : (i : ℕ) (a : Task) (c : Colour) → instance_line l ≡ right (task_line i a) → former.run_times.most < time_on c a → LargeTime l
  of_move : (i j f c : ℕ) → instance_line l ≡ right (file_line i j f c) → former.move_times.most < c → LargeTime l

abbrev SheetLine : Line → Type 0
SheetLine l = Kept (LongIn sheet_forms l) (LargeTime l) (instance_line_by former l) (instance_line l)

module _ (l : List ℕ) (b : scan board_form l ≡ none) where
  abbrev Numbers : Reading InstanceLine → Reading InstanceLine → Type 0
  Numbers = Kept (LongIn sheet_forms (ended l)) (LargeTime (ended l))

  task-kept : (vs : List ℕ) → scan task_form l ≡ some vs → Numbers (as_task_by former vs) (as_task vs)
  task-kept vs e =
      let i = get_or vs 0 0 in
      let x = get_or vs 1 0 in
      let y = get_or vs 2 0 in
      let a : Task = record { on_blue = x; on_red = y; work = 0 } in
      range-kept (task_line i a) _ _
      (λ o.
      let (p, q, r) = tested-3 task_numbers former.run_times former.run_times i x y o in
      rw (in-tested _ _ p, in-tested run_times x (wider former.run_times run_times x refl (omega arith) q), in-tested run_times y (wider former.run_times run_times y refl (omega arith) r)))
      (λ o u.
      let (p, q, r) = tested-3 task_numbers run_times run_times i x y u in
      let line : instance_line (ended l) ≡ right (task_line i a) = as-task l vs b e ∙ rw u in
      by_order former.run_times.most x (λ h. of_run i a blue line h) (λ hx.
      by_order former.run_times.most y (λ h. of_run i a red line h) (λ hy.
      clash (rw (in-tested _ _ p, in-tested former.run_times x (record { least = q.least; most = hx }), in-tested former.run_times y (record { least = r.least; most = hy }))) o)))

  module _ (t : scan task_form l ≡ none) where
    work-kept : (vs : List ℕ) → scan work_form l ≡ some vs → Numbers (as_work_by former vs) (as_work vs)
    work-kept vs e =
        let i = get_or vs 0 0 in
        let x = get_or vs 1 0 in
        let y = get_or vs 2 0 in
        let w = get_or vs 3 0 in
        let a : Task = record { on_blue = x; on_red = y; work = w } in
        range-kept (task_line i a) _ _
        (λ o.
        let (p, q, r, s) = tested-4 task_numbers former.run_times former.run_times work_sizes i x y w o in
        rw (in-tested _ _ p, in-tested run_times x (wider former.run_times run_times x refl (omega arith) q), in-tested run_times y (wider former.run_times run_times y refl (omega arith) r), in-tested _ _ s))
        (λ o u.
        let (p, q, r, s) = tested-4 task_numbers run_times run_times work_sizes i x y w u in
        let line : instance_line (ended l) ≡ right (task_line i a) = as-work l vs b t e ∙ rw u in
        by_order former.run_times.most x (λ h. of_run i a blue line h) (λ hx.
        by_order former.run_times.most y (λ h. of_run i a red line h) (λ hy.
        clash (rw (in-tested _ _ p, in-tested former.run_times x (record { least = q.least; most = hx }), in-tested former.run_times y (record { least = r.least; most = hy }), in-tested _ _ s)) o)))

    file-kept : scan work_form l ≡ none → (vs : List ℕ) → scan file_form l ≡ some vs → Numbers (as_file_by former vs) (as_file vs)
    file-kept w vs e =
        let i = get_or vs 0 0 in
        let j = get_or vs 1 0 in
        let f = get_or vs 2 0 in
        let c = get_or vs 3 0 in
        range-kept (file_line i j f c) _ _
        (λ o.
        let (p, q, r, s) = tested-4 task_numbers task_numbers file_sizes former.move_times i j f c o in
        rw (in-tested _ _ p, in-tested _ _ q, in-tested _ _ r, in-tested move_times c (wider former.move_times move_times c refl (omega arith) s)))
        (λ o u.
        let (p, q, r, s) = tested-4 task_numbers task_numbers file_sizes move_times i j f c u in
        let line : instance_line (ended l) ≡ right (file_line i j f c) = as-file l vs b t w e ∙ rw u in
        by_order former.move_times.most c (λ h. of_move i j f c line h) (λ hc.
        clash (rw (in-tested _ _ p, in-tested _ _ q, in-tested _ _ r, in-tested former.move_times c (record { least = s.least; most = hc }))) o))

module _ (l : List ℕ) where
  sheet-long : Unread former_digits l sheet_forms → instance_line_by former (ended l) ≡ wrong malformed
  unfolding instance_line_by
  sheet-long (b, (t, (w, (f, _)))) = rw (b, t, w, f)

  sheet-same : Alike l sheet_forms → SheetLine (ended l)
  unfolding instance_line_by
  sheet-same (b, (t, (w, (f, _)))) = rw (b, t, w, f)
      (or_kept as_board as_board (scan board_form l) _ _ (λ vs e. is_same refl)
      (λ n. or_kept (as_task_by former) as_task (scan task_form l) _ _ (task-kept l n)
      (λ m. or_kept (as_work_by former) as_work (scan work_form l) _ _ (work-kept l n m)
      (λ k. or_kept (as_file_by former) as_file (scan file_form l) _ _ (file-kept l n m k) (λ _. is_same refl)))))

  sheet-forms : Agree sheet_forms l
  sheet-forms = agreed l sheet_forms (refl, (refl, (refl, (refl, tt)))) (
    (
      behind board_form task_form (λ vs _ _. no-board-task vs),
      (behind board_form work_form (λ vs _ _. no-board-work vs), (behind board_form file_form (λ vs _ _. no-board-file vs), tt)),
    ),
    (
      (behind task_form work_form (λ vs n. no-task-work vs (omega arith)), (behind task_form file_form (λ vs _ _. no-task-file vs), tt)),
      ((behind work_form file_form (λ vs _ _. no-work-file vs), tt), (tt, tt)),
    ),
  )
    where
      -- the later form, filled in, is not read by the earlier one
      behind : (f g : List ℕ) → ((vs : List ℕ) → length vs ≡ numbers g → Numerals max_digits vs → scan f (fill g vs) ≡ none) → Exclusive f g
      behind f g h = reversed g f (exclusive g f h)

pub sheet-line : (l : Line) → SheetLine l
unfolding instance_line_by
sheet-line (unended l) = is_same refl
sheet-line (ended l) = elim (sheet-forms l) [
  | agree a ↦ sheet-same l a
  | too_long n form o x ↦ is_long (sheet-long l n) (form, o, x)
]

-- ---- a line of a timetable

-- no number of nine digits is over the former range of ticks
tick-kept : (n : ℕ) → n < 10 ^ former_digits → in_range former.ticks n ≡ in_range ticks n
tick-kept n h =
    in-tested former.ticks n (record { least = omega arith; most = omega arith })
    ∙ sym (in-tested ticks n (record { least = omega arith; most = omega arith }))

abbrev PaperLine : Instance → Line → Type 0
PaperLine I l = Kept (LongIn timetable_forms l) ⊥ (schedule_line_by former I l) (schedule_line I l)

module _ (l : List ℕ) where
  ticks-kept : (form vs : List ℕ) → scan_by former_digits form l ≡ some vs → (j : ℕ) → in_range former.ticks (get_or vs j 0) ≡ in_range ticks (get_or vs j 0)
  ticks-kept form vs e j =
      tick-kept (get_or vs j 0) (numerals-at former_digits vs (scan-only former_digits (omega arith) form l vs e).numerals (omega arith) j)

  paper-long : (I : Instance) → Unread former_digits l timetable_forms → schedule_line_by former I (ended l) ≡ wrong malformed
  unfolding schedule_line_by
  paper-long I (r, (m, (c, _))) = rw (r, m, c)

  paper-same : (I : Instance) → Alike l timetable_forms → PaperLine I (ended l)
  unfolding schedule_line_by
  paper-same I (r, (m, (c, _))) = rw (r, m, c)
      (or_kept (as_run_by former I) (as_run_by current I) (scan run_form l) _ _ (λ vs e. let x = ticks-kept run_form vs (r ∙ e) in is_same (rw (x 2)))
      (λ _. or_kept (as_move_by former) (as_move_by current) (scan move_form l) _ _ (λ vs e. let x = ticks-kept move_form vs (m ∙ e) in is_same (rw (x 2)))
      (λ _. or_kept (as_claim_by former) (as_claim_by current) (scan claim_form l) _ _
      (λ vs e. let x = ticks-kept claim_form vs (c ∙ e) in is_same (rw (x 0, x 1, x 2))) (λ _. is_same refl))))

  paper-forms : Agree timetable_forms l
  unfolding scan_by fill
  paper-forms = agreed l timetable_forms (refl, (refl, (refl, tt))) (
    (exclusive run_form move_form (λ vs _ _. refl), (exclusive run_form claim_form (λ vs _ _. refl), tt)),
    ((exclusive move_form claim_form (λ vs _ _. refl), tt), (tt, tt)),
  )

pub paper-line : (I : Instance) (l : Line) → PaperLine I l
unfolding schedule_line_by
paper-line I (unended l) = is_same refl
paper-line I (ended l) = elim (paper-forms l) [
  | agree a ↦ paper-same l I a
  | too_long n form o x ↦ is_long (paper-long l I n) (form, o, x)
]
