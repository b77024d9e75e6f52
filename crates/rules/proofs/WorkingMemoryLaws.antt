-- Order 6, W in words: work_held_law, work_counts, earliest_law, work_lines, written_zero.
use Prim.Native.Nat.{ℕ, suc, ◌+◌, ◌^◌, ◌≤◌, ◌<◌, max}
use mathlib.Core.Bool.{Bool, true, cond, ◌&&◌}
use mathlib.Core.Path.{◌≡◌, refl, sym, ap, ◌∙◌}
use mathlib.Core.Logic.{◌≢◌}
use mathlib.Core.List.{List, [], ◌∷◌}
use mathlib.Core.Option.{some}
use native.Mathlib.Omega.{arith}
use native.Mathlib.Decide.{ℕ_discrete}
use lib.Dec.{leb, ltb}
use lib.ListN.{length-set}
use lib.Seq.{get_or-set_same, get_or-set_other}
use borrow.Author.Tests.{ltb-true, lt-ltb, leb-true, le-leb}
use Rattle.rules.specs.Limits.{max_digits, task_numbers, run_times, work_sizes, in_range}
use Rattle.rules.specs.Model.{Colour, blue, red, same_colour, Instance, File, Run, time_on, task_count, task_at, work_at, file_count, file_at, size_at, is_placed}
use Rattle.rules.specs.Model.{Schedule, run_at, start_at, colour_of, finish_at, release_of, move_at, maker_run, reader_run}
use Rattle.rules.specs.Residency.{covers, hold_by, work_by, is_work_held, files_held, work_held, held}
use Rattle.rules.specs.Scheduling.{aware, crossing_size, output_size, memory_start, earliest_start}
use Rattle.rules.specs.Text.{ended, fill, if_in_range}
use Rattle.rules.specs.InstanceText.{work_form, InstanceLine, task_line, instance_line}
use Rattle.rules.specs.WorkingMemory.{KeepsUntil, by_finish, of_relay, WorkHeldLaw, with_work, WorkCounts, EarliestLaw}
use Rattle.rules.specs.WorkingMemory.{AllInRange, WorkLines, WrittenZero}
use Rattle.rules.proofs.Tests.{split, by_order, clash, and-true, cond-zero}
use Rattle.rules.proofs.CountLaws.{sum-cong, sum-changed}
use Rattle.rules.proofs.GainLaws.{same-colour, colour-is}
use Rattle.rules.proofs.FormLaws.{Numerals, scan-fill}
use Rattle.rules.proofs.ReadingLaws.{in-tested, tested-4, ranged-right}
use Rattle.rules.proofs.InstanceLineLaws.{no-task-work, no-board-work, as-work}
use Rattle.rules.proofs.ResidencyLaws.{held-is, free_from_law}
use Rattle.rules.proofs.StartLaws.{starts, frees}

-- ---- where W is held

-- before the release is before the finish, or at a relay's start
keeps : (s f t : ℕ) → s ≤ f → s ≤ t → t < max f (suc s) → KeepsUntil s f t
keeps s f t a b h = by_order t f (λ l. by_finish l) (λ l. of_relay (omega arith) (omega arith))

kept-until : (s f t : ℕ) → KeepsUntil s f t → t < max f (suc s)
kept-until s f t (by_finish l) = omega arith
kept-until s f t (of_relay e q) = omega arith

pub work_held_law : WorkHeldLaw
unfolding work_by
work_held_law I P c t i = (
  (λ h. split (is_placed (run_at P i) && same_colour (colour_of I (run_at P i)) c && ltb 0 (work_at I i))
      (λ e.
      let a = and-true (is_placed (run_at P i) && same_colour (colour_of I (run_at P i)) c) _ e in
      let b = and-true (is_placed (run_at P i)) _ a.0 in
      let k = and-true (leb (run_at P i).start t) _ (rw e at h) in
      let begun = leb-true _ _ k.0 in
      record {
        placed = b.0;
        has = ltb-true _ _ a.1;
        memory = sym (same-colour (colour_of I (run_at P i)) c b.1);
        begun = begun;
        kept = keeps (start_at P i) (finish_at I P i) t (omega arith) begun (ltb-true _ _ k.1);
      })
      (λ e. clash (rw e at h) refl)),
  (λ w.
      let s : same_colour (colour_of I (run_at P i)) c ≡ true = rw w.memory (colour-is c) in
      let e : is_placed (run_at P i) && same_colour (colour_of I (run_at P i)) c && ltb 0 (work_at I i) ≡ true = rw (w.placed, s) (lt-ltb _ _ w.has) in
      rw (e, le-leb _ _ w.begun) (lt-ltb _ _ (kept-until (start_at P i) (finish_at I P i) t w.kept))),
)

-- ---- one more hold

module _ (I : Instance) (i w : ℕ) (l : i < task_count I) where
  abbrev J : Instance
  J = with_work I i w

  other-task : (j : ℕ) → j ≢ i → task_at J j ≡ task_at I j
  other-task j n = get_or-set_other I.tasks i j _ _ n

  this-task : task_at J i ≡ record { on_blue = (task_at I i).on_blue; on_red = (task_at I i).on_red; work = w }
  this-task = get_or-set_same I.tasks i _ _ l

  same-time : (c : Colour) (j : ℕ) → time_on c (task_at J j) ≡ time_on c (task_at I j)
  same-time c j = elim (ℕ_discrete j i) [
    | yes e ↦ rw (e, this-task) (by-colour c)
    | no n ↦ rw (other-task j n)
  ]
    where
      by-colour : (c : Colour) → time_on c (record { on_blue = (task_at I i).on_blue; on_red = (task_at I i).on_red; work = w }) ≡ time_on c (task_at I i)
      by-colour blue = refl
      by-colour red = refl

  same-release : (j : ℕ) (r : Run) → release_of J j r ≡ release_of I j r
  same-release j r = let e = same-time (colour_of I r) j in omega arith

  same-hold : (f : File) (m r : Run) (v : ℕ) (c : Colour) → hold_by J f m r v c ≡ hold_by I f m r v c
  unfolding hold_by
  same-hold f m r v c = rw (same-release f.reader r)

  other-work : (j : ℕ) → j ≢ i → (r : Run) (c : Colour) → work_by J j r c ≡ work_by I j r c
  unfolding work_by
  other-work j n r c = rw (same-release j r, ap (λ a. a.work) (other-task j n))

  module _ (P : Schedule) (c : Colour) (t : ℕ) where
    same-files : files_held J P c t ≡ files_held I P c t
    unfolding files_held
    same-files = sum-cong (file_count I) _ _ (λ k _. ap (λ h. cond (covers h t) (size_at I k) 0) (same-hold (file_at I k) (maker_run I P k) (reader_run I P k) (move_at P k) c))

    more-work : work_at I i ≡ 0 → (d : ℕ) → cond (is_work_held J P c t i) w 0 ≡ d → work_held J P c t ≡ work_held I P c t + d
    unfolding work_held
    more-work z d e =
        rw (length-set I.tasks i (record { on_blue = (task_at I i).on_blue; on_red = (task_at I i).on_red; work = w }))
        (sum-changed (task_count I) (λ j. cond (is_work_held I P c t j) (work_at I j) 0) (λ j. cond (is_work_held J P c t j) (work_at J j) 0) i d l
        (λ j n. rw (other-work j n (run_at P j) c, ap (λ a. a.work) (other-task j n)))
        (let q : cond (is_work_held I P c t i) (work_at I i) 0 ≡ 0 = rw z (cond-zero (is_work_held I P c t i)) in
        let u : cond (is_work_held J P c t i) (work_at J i) 0 ≡ d = rw (ap (λ a. a.work) this-task) e in
        omega arith))

    more-held : work_at I i ≡ 0 → (d : ℕ) → cond (is_work_held J P c t i) w 0 ≡ d → held J P c t ≡ held I P c t + d
    more-held z d e = omega (arith, more-work z d e, same-files, held-is J P c t, held-is I P c t)

pub work_counts : WorkCounts
work_counts I i w l z P c t =
    let law = work_held_law (with_work I i w) P c t i in
    record {
      more = λ h. more-held I i w l P c t z w (rw (law.1 h));
      same = λ n. split (is_work_held (with_work I i w) P c t i)
          (λ e. absurd (n (law.0 e)))
          (λ e. omega (arith, more-held I i w l P c t z 0 (rw e)));
    }

-- ---- the starts

pub earliest_law : EarliestLaw
unfolding earliest_start memory_start
earliest_law I Q i c s =
    let P = Q.schedule in
    let need = crossing_size I P i c + output_size I i + work_at I i in (
      (λ e.
          let st = starts aware I Q i c s e in
          let f = frees I P i c st.memory st.asked in
          record {
            third = f.running;
            fourth = f.moving;
            enough = (free_from_law I P c need f.running).0 f.free-running;
            entering = (free_from_law I P c (crossing_size I P i c) f.moving).0 f.free-moving;
            greatest = omega (arith, st.start, f.greater);
          }),
      (λ f.
          rw ((free_from_law I P c need f.third).1 f.enough, (free_from_law I P c (crossing_size I P i c) f.fourth).1 f.entering)
          (ap some (sym f.greatest))),
    )

-- ---- the lines with W

module _ (i b r w : ℕ) (hi : i < 10 ^ max_digits) (hb : b < 10 ^ max_digits) (hr : r < 10 ^ max_digits) (hw : w < 10 ^ max_digits) where
  abbrev numbers : List ℕ
  numbers = i ∷ b ∷ r ∷ w ∷ []

  abbrev in_ranges : Bool
  in_ranges = in_range task_numbers i && in_range run_times b && in_range run_times r && in_range work_sizes w

  abbrev said : InstanceLine
  said = task_line i (record { on_blue = b; on_red = r; work = w })

  short : Numerals max_digits numbers
  short = (hi, (hb, (hr, (hw, tt))))

  by-ranges : instance_line (ended (fill work_form numbers)) ≡ if_in_range in_ranges said
  by-ranges =
      as-work (fill work_form numbers) numbers (no-board-work numbers) (no-task-work numbers (omega arith) short)
      (scan-fill max_digits (omega arith) work_form numbers refl refl short)

  in_all : in_ranges ≡ true → AllInRange i b r w
  in_all e =
      let (t, x, y, z) = tested-4 task_numbers run_times run_times work_sizes i b r w e in
      record { task = t; on_blue = x; on_red = y; work = z }

  all_in : AllInRange i b r w → in_ranges ≡ true
  all_in h = rw (in-tested _ _ h.task, in-tested _ _ h.on_blue, in-tested _ _ h.on_red) (in-tested _ _ h.work)

pub work_lines : WorkLines
work_lines i b r w hi hb hr hw = record {
  readable = (
    (λ e. in_all i b r w hi hb hr hw (ranged-right (in_ranges i b r w hi hb hr hw) (said i b r w hi hb hr hw) _ (sym (by-ranges i b r w hi hb hr hw) ∙ e)).0),
    (λ h. by-ranges i b r w hi hb hr hw ∙ rw (all_in i b r w hi hb hr hw h)),
  );
  otherwise = λ n.
      split (in_ranges i b r w hi hb hr hw)
      (λ e. absurd (n (in_all i b r w hi hb hr hw e)))
      (λ e. by-ranges i b r w hi hb hr hw ∙ rw e);
}

pub written_zero : WrittenZero
written_zero i b r hi hb hr = (work_lines i b r 0 hi hb hr (omega arith)).otherwise (λ h. omega (arith, h.work.least))
