-- The partial schedule with one task more, and with nothing placed.
use Rattle.model.specs.Layout.{schedule_from}
use Prim.Native.Nat.{ℕ, suc, ◌+◌, ◌≤◌, ◌<◌}
use mathlib.Core.List.{List}
use mathlib.Core.Path.{◌≡◌, refl, subst, sym, ap, ◌∙◌}
use native.Mathlib.Numerals.{add-one}
use native.Mathlib.Decide.{ℕ_discrete}
use native.Mathlib.Omega.{arith}
use lib.ListN.{length, get_or, set, replicate, length-set}
use lib.Seq.{get_or-set_same, get_or-set_other}
use Rattle.rules.specs.Count.{list_below}
use Rattle.rules.specs.Limits.{max_tasks, max_files, all_processors}
use Rattle.rules.specs.Model.{Instance, Run, unplaced, processor_count, file_count, time_on, task_at}
use Rattle.rules.specs.Scheduling.{Partial, slot_of, chosen_processor, move_with, assign, empty, finish_on}
use Rattle.rules.specs.Model.{blue, red, Colour as RulesColour}
use Rattle.rules.specs.Promises.{WellFormed, Trial as IsTrial}
use Rattle.rules.specs.Scheduling.{aware}
use Rattle.rules.specs.Staircase.{Placed, placed}
use Rattle.rules.proofs.CountLaws.{list_set, list_same, get_or-same}
use Rattle.rules.proofs.PlacedLaws.{count-waits}
use Rattle.rules.proofs.StairsLaws.{placed-sound}
use Rattle.rules.proofs.StartLaws.{starts, free-processor, processor_law, slot_for, slot-exists as slot-within, last-here}
use Rattle.model.specs.declared.layout.Run.{Run as StoredRun}
use Rattle.model.specs.declared.layout.Schedule.{Schedule as StoredSchedule}
use Rattle.model.specs.declared.colour.Colour.{Colour}
use Rattle.model.specs.declared.colour.Colour.TheVariants.{Blue, Red}
use Rattle.model.specs.Colours.{as_colour}
use Rattle.model.specs.declared.job.Job.{Job}
use Rattle.model.specs.Layout.{entries_of, run_from, count_in, WholeSchedule, unplaced as no_runs}
use Rattle.model.specs.Jobs.{instance_in, schedule_of, partial_by}
use Rattle.model.specs.Layout.{LastBounds, last_tick, with_run_at}
use Rattle.model.proofs.LayoutLaws.{processors-of}
use Rattle.model.proofs.JobLaws.{on-board, files-in, tasks-in}
use Rattle.model.proofs.WriteLaws.{run-here, run-other}
use Rattle.placement.specs.Slots.{slot_in, with_finish}
use Rattle.placement.proofs.SlotLaws.{slot_at, slot-exists}

-- ---- the whole

parts : {r r' : List Run} {m m' l l' : List ℕ} → r ≡ r' → m ≡ m' → l ≡ l'
    → ◌≡◌ {A = Partial} (record { schedule = record { runs = r; moves = m }; last_finish = l })
    (record { schedule = record { runs = r'; moves = m' }; last_finish = l' })
parts p q e = rw (p, q, e)

module _ (j : Job) (xs : StoredSchedule) (last : List ℕ) (x : Colour) {i : ℕ} (inside : i < (length j.tasks.now)) (s : ℕ) where
  abbrev I : Instance
  I = instance_in j

  abbrev Q : Partial
  Q = partial_by j (entries_of xs) last

  -- the last finishes written are those of the rule
  pub finished : (p : ℕ) {slot time : ℕ} → p ≡ chosen_processor I Q (as_colour x) s → slot ≡ slot_in j.board x p → time ≡ time_on (as_colour x) (task_at I i)
      → set last slot (s + time) ≡ with_finish I Q i (as_colour x) s last
  finished p {slot} {time} chosen here takes =
      let at : slot ≡ slot_of I (as_colour x) (chosen_processor I Q (as_colour x) s) = rw (here, chosen) (sym (slot_at (on-board j) x _)) in
      let finish : s + time ≡ finish_on I i (as_colour x) s = omega arith in
      rw (at, finish)

  module _ (ys : StoredSchedule) (size : WholeSchedule ys)
      (same : (t : ℕ) → t < max_tasks → run_from (entries_of ys) t ≡ run_from (entries_of xs) t) (p : ℕ) where
    module _ {slot time : ℕ} (known : length last ≡ all_processors)
        (moves : list_below (length j.files.now) (entries_of ys).move_start ≡ list_below (file_count I) (move_with I (schedule_of j xs) i (as_colour x) s))
        (chosen : p ≡ chosen_processor I Q (as_colour x) s) (exists : p < count_in j.board x)
        (here : slot ≡ slot_in j.board x p) (takes : time ≡ time_on (as_colour x) (task_at I i)) where
      l : i < max_tasks
      l = omega (arith, j.in_bounds.tasks)

      -- the place of the processor chosen
      at : slot_of I (as_colour x) (chosen_processor I Q (as_colour x) s) ≡ slot
      at = slot_at (on-board j) x _ ∙ rw (here, chosen)

      finish : s + time ≡ finish_on I i (as_colour x) s
      finish = omega arith

      runs-placed : list_below (length j.tasks.now) (run_from (entries_of (with_run_at ys i (slot + 1) s)))
          ≡ set (list_below (length j.tasks.now) (run_from (entries_of xs))) i (record { processor = suc slot; start = s })
      runs-placed =
          list_set (length j.tasks.now) (run_from (entries_of xs)) (run_from (entries_of (with_run_at ys i (slot + 1) s))) i _ inside
          (run-here ys (omega (arith, size.0, l)) (slot + 1) s ∙ rw (add-one slot))
          (λ t h d. run-other ys (omega (arith, size.0, l)) (slot + 1) s t d ∙ same t (omega (arith, j.in_bounds.tasks)))

      last-placed : list_below (j.board.blue.processors + j.board.red.processors) (λ q. get_or (set last slot (s + time)) q 0)
          ≡ set (list_below (j.board.blue.processors + j.board.red.processors) (λ q. get_or last q 0)) slot (s + time)
      last-placed =
          let u : slot < j.board.blue.processors + j.board.red.processors = omega (arith, slot-exists j.board x p exists) in
          list_set _ (λ q. get_or last q 0) (λ q. get_or (set last slot (s + time)) q 0) slot (s + time) u
          (get_or-set_same last slot (s + time) 0 (omega (arith, j.in_bounds.processors.blue.most, j.in_bounds.processors.red.most)))
          (λ q h d. get_or-set_other last slot q (s + time) 0 d)

      pub assigned : {zs : StoredSchedule} → zs ≡ with_run_at ys i (slot + 1) s → partial_by j (entries_of zs) (set last slot (s + time)) ≡ assign I Q i (as_colour x) s
      unfolding assign schedule_from
      assigned e = rw (e, at, ← finish) (parts runs-placed moves last-placed)

-- ---- a trial that is placed ends in time

pub finish-bound : (I : Instance) → WellFormed I → {Q : Partial} → Placed I Q → (i : ℕ) (c : RulesColour) (s : ℕ) → IsTrial aware I Q i c s
    → finish_on I i c s ≤ last_tick
finish-bound I W {Q} p i c s T =
    let r = placed-sound I W p in
    let z = placed-sound I W (placed i c s p T) in
    let q = free-processor I Q c s (W.processors c).least (omega (arith, (starts aware I Q i c s T.earliest).start)) in
    let e = slot-within I c (chosen_processor I Q c s) (processor_law I Q c s q.0 q.1 q.2).0 in
    omega (
      arith,
      z.1.last_bound (slot_for I Q c s),
      last-here I Q i c s (omega (arith, e, r.1.slots)),
      z.1.count,
      count-waits I (assign I Q i c s).schedule,
      W.tasks.most,
    )

-- and so the last finishes stay in their bound
pub bounds-kept : (I : Instance) → WellFormed I → {Q : Partial} → Placed I Q → (i : ℕ) (c : RulesColour) (s : ℕ) → IsTrial aware I Q i c s
    → {last ends : List ℕ} → ends ≡ with_finish I Q i c s last → LastBounds last → LastBounds ends
bounds-kept I W {Q} p i c s T {last} {ends} e bounds =
    let slot = slot_for I Q c s in
    let finish = finish_on I i c s in
    let q = free-processor I Q c s (W.processors c).least (omega (arith, (starts aware I Q i c s T.earliest).start)) in
    let inside : slot < length last =
    omega (
      arith,
      slot-within I c (chosen_processor I Q c s) (processor_law I Q c s q.0 q.1 q.2).0,
      (W.processors blue).most,
      (W.processors red).most,
      bounds.whole,
    ) in record {
      whole = ap length e ∙ length-set last slot finish ∙ bounds.whole;
      each = λ k. elim (ℕ_discrete k slot) [
        | yes d ↦
            let here : get_or ends k 0 ≡ finish = rw (e, d) (get_or-set_same last slot finish 0 inside) in
            omega (arith, here, finish-bound I W p i c s T)
        | no d ↦
            let other : get_or ends k 0 ≡ get_or last k 0 = rw e (get_or-set_other last slot k finish 0 d) in
            omega (arith, other, bounds.each k)
      ];
    }

-- ---- nothing placed

run-none : (j : ℕ) → run_from (entries_of no_runs) j ≡ unplaced
run-none j =
    let none : StoredRun = record { processor = 0; start = 0 } in
    let run = λ (r : StoredRun). ◌≡◌ {A = Run} (record { processor = r.processor; start = r.start }) unplaced in
    subst run (sym (get_or-same max_tasks j none)) refl

pub empty-from : (j : Job) (n : ℕ) → partial_by j (entries_of no_runs) (replicate n 0) ≡ empty (instance_in j)
unfolding empty schedule_from
empty-from j n =
    let count : j.board.blue.processors + j.board.red.processors ≡ processor_count (instance_in j) = omega
    (arith, processors-of j.board j.tasks.now j.files.now Blue, processors-of j.board j.tasks.now j.files.now Red) in
    parts
    (list_same (length j.tasks.now) (run_from (entries_of no_runs)) unplaced (λ t h. run-none t) ∙ ap (λ k. replicate k unplaced)
    (sym (tasks-in j)))
    (list_same (length j.files.now) (entries_of no_runs).move_start 0 (λ k h. get_or-same max_files k 0) ∙ ap (λ k. replicate k 0) (sym (files-in j)))
    (list_same (j.board.blue.processors + j.board.red.processors) (λ q. get_or (replicate n 0) q 0) 0 (λ q h. get_or-same n q 0) ∙ ap
    (λ k. replicate k 0) count)
