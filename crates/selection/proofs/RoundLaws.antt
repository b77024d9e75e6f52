-- One turn of each planner's round, and what it comes to after all tasks.
use Prim.Native.Nat.{ℕ, ◌+◌, ◌<◌}
use mathlib.Core.Bool.{Bool, true, false}
use mathlib.Core.List.{List, [], ◌∷◌}
use mathlib.Core.Path.{◌≡◌, refl, sym, ap, ◌∙◌}
use native.Mathlib.Nat.{add-zero, zero-add, add_assoc}
use native.Mathlib.Numerals.{add-one}
use native.Mathlib.Omega.{arith}
use lib.ListN.{length, get_or, drop, drop_of_length-le}
use lib.Seq.{drop-cons}
use Rattle.rules.specs.Model.{Instance, task_count}
use Rattle.rules.specs.Scheduling.{Memory, Partial, ready, Choice as Chosen, nothing, choose, earlier, both_colours, Round as Made, or_rest, first_that_fits, earliest_below}
use Rattle.rules.proofs.Tests.{clash}
use Rattle.model.specs.declared.trial.Trial.{Trial}
use Rattle.model.specs.Jobs.{instance_in}
use Rattle.model.proofs.JobLaws.{tasks-in}
use Rattle.needs.specs.declared.table.Need.{Need}
use Rattle.needs.specs.Tables.{need_at}
use Rattle.starts.specs.Memories.{as_memory}
use Rattle.std.specs.Prelude.{Option, None, Some, is_some}
use Rattle.selection.specs.declared.trials.Trials.{Trials}
use Rattle.selection.specs.Choices.{as_choice, is_chosen}
use Rattle.selection.specs.Trials.{TrialsOf}

-- whether there is a choice
some_chosen : (o : Option Trial) → is_some o ≡ is_chosen (as_choice o)
some_chosen None = refl
some_chosen (Some t) = refl

-- a round, with trials made before it
abbrev pub after : ℕ → Made → Made
after trials r = record { choice = r.choice; trials = trials + r.trials }

after_none : (r : Made) → after 0 r ≡ r
after_none r = rw (zero-add r.trials)

after-after : (k n : ℕ) (r : Made) → after k (after n r) ≡ after (k + n) r
after-after k n r = rw (add_assoc k n r.trials)

or-passed : (x : Chosen) (rest : Made) → is_chosen x ≡ false → or_rest x rest ≡ after 2 rest
or-passed nothing rest e = refl
or-passed (choose i c s) rest e = clash refl e

or-taken : (x : Chosen) (rest : Made) → is_chosen x ≡ true → or_rest x rest ≡ record { choice = x; trials = 2 }
or-taken nothing rest e = clash e refl
or-taken (choose i c s) rest e = refl

module _ (m : Memory) (I : Instance) (Q : Partial) (i : ℕ) where
  first-ready : (is : List ℕ) → ready I Q.schedule i ≡ true → first_that_fits m I Q (i ∷ is) ≡ or_rest (both_colours m I Q i) (first_that_fits m I Q is)
  unfolding first_that_fits
  first-ready is e = rw e

  first-waits : (is : List ℕ) → ready I Q.schedule i ≡ false → first_that_fits m I Q (i ∷ is) ≡ first_that_fits m I Q is
  unfolding first_that_fits
  first-waits is e = rw e

-- ---- the rules' rounds, task by task

module _ (m : Memory) (I : Instance) (Q : Partial) where
  below-none : earliest_below m I Q 0 ≡ record { choice = nothing; trials = 0 }
  unfolding earliest_below
  below-none = refl

  module _ (n : ℕ) where
    below-ready : ready I Q.schedule n ≡ true → earliest_below m I Q (n + 1)
        ≡ record { choice = earlier I (earliest_below m I Q n).choice (both_colours m I Q n); trials = (earliest_below m I Q n).trials + 2 }
    unfolding earliest_below
    below-ready e = rw (add-one n, e)

    below-waits : ready I Q.schedule n ≡ false → earliest_below m I Q (n + 1) ≡ earliest_below m I Q n
    unfolding earliest_below
    below-waits e = rw (add-one n, e)

  module _ (order : List ℕ) where
    -- the whole round is that of the tasks from the i-th on, after the trials made
    abbrev Left : ℕ → ℕ → Type 0
    Left i trials = first_that_fits m I Q order ≡ after trials (first_that_fits m I Q (drop i order))

    left-all : Left 0 0
    left-all = sym (after_none (first_that_fits m I Q order))

    left-none : {i trials : ℕ} → Left i trials → i ≡ length order → record { choice = nothing; trials = trials } ≡ first_that_fits m I Q order
    unfolding first_that_fits
    left-none {i} {trials} left e =
        let d : drop i order ≡ [] = drop_of_length-le order {i = i} (omega arith) in
        sym (left ∙ rw (d, add-zero trials))

    here : (i : ℕ) → i < length order → drop i order ≡ get_or order i 0 ∷ drop (i + 1) order
    here i h = rw (add-one i) (drop-cons order i 0 h)

    module _ {i : ℕ} (trials : ℕ) (h : i < length order) (left : Left i trials) where
      abbrev next : ℕ
      next = get_or order i 0

      abbrev rest : Made
      rest = first_that_fits m I Q (drop (i + 1) order)

      left-waits : ready I Q.schedule next ≡ false → Left (i + 1) trials
      left-waits e = left ∙ rw (here i h, first-waits m I Q next (drop (i + 1) order) e)

      module _ (e : ready I Q.schedule next ≡ true) (found : Option Trial) (f : as_choice found ≡ both_colours m I Q next) {x : Bool}
          (c : x ≡ is_some found) where
        chosen : x ≡ is_chosen (as_choice found)
        chosen = c ∙ some_chosen found

        left-next : x ≡ false → Left (i + 1) (trials + 2)
        left-next n =
            left ∙ rw (here i h, first-ready m I Q next (drop (i + 1) order) e, ← f, or-passed (as_choice found) rest (sym chosen ∙ n))
            (after-after trials 2 rest)

        left-taken : x ≡ true → record { choice = as_choice found; trials = trials + 2 } ≡ first_that_fits m I Q order
        left-taken n =
            sym (left ∙ rw (here i h, first-ready m I Q next (drop (i + 1) order) e, ← f, or-taken (as_choice found) rest (sym chosen ∙ n)))

-- ---- the loops: whatever partial timetable the trials go by

module _ (x : Trials) where
  abbrev m : Memory
  m = as_memory x.memory

  abbrev I : Instance
  I = instance_in x.job

  tasks : task_count I ≡ (length x.job.tasks.now)
  tasks = tasks-in x.job

  -- a ready task was tried on both colours
  abbrev pub TriedBoth : Option Trial → ℕ → Type 0
  TriedBoth found i = (Q : Partial) → TrialsOf Q x → ready I Q.schedule i ≡ true → as_choice found ≡ both_colours m I Q i

  -- the task's mark, from its need
  stands : {Q : Partial} → TrialsOf Q x → {i : ℕ} → i < (length x.job.tasks.now) → {n : Need} → n ≡ need_at x.needs.now i → ready I Q.schedule i ≡ n.ready
  stands T {i} h r = sym (T.kept.needs.admitted i (omega (arith, tasks))).is_ready ∙ ap (λ (n : Need). n.ready) (sym r)

  -- ---- MINMIN

  -- the round of the tasks below i
  pub record Passed (choice : Option Trial) (trials i : ℕ) : Type 0 where
    pub round : (Q : Partial) → TrialsOf Q x → record { choice = as_choice choice; trials = trials } ≡ earliest_below m I Q i

  pub passed_none : Passed None 0 0
  passed_none = record { round = λ Q T. sym (below-none m I Q) }

  module _ {i trials : ℕ} {old : Option Trial} (p : Passed old trials i) (h : i < (length x.job.tasks.now)) {n : Need} (r : n ≡ need_at x.needs.now i) where
    pub passed-ready : n.ready ≡ true → (found : Option Trial) {new : Option Trial} → TriedBoth found i
        → as_choice new ≡ earlier I (as_choice old) (as_choice found) → Passed new (trials + 2) (i + 1)
    passed-ready t found o e = record {
      round = λ Q T.
          let d = stands T h r ∙ t in
          rw (below-ready m I Q i d, ← p.round Q T, ← o Q T d, e);
    }

    pub passed-waits : n.ready ≡ false → Passed old trials (i + 1)
    passed-waits t = record { round = λ Q T. p.round Q T ∙ sym (below-waits m I Q i (stands T h r ∙ t)) }

  pub passed-all : {i trials : ℕ} {choice : Option Trial} → Passed choice trials i → i ≡ (length x.job.tasks.now) → (Q : Partial) → TrialsOf Q x
      → record { choice = as_choice choice; trials = trials } ≡ earliest_below m I Q (task_count I)
  passed-all p e Q T = p.round Q T ∙ ap (earliest_below m I Q) (e ∙ sym tasks)

  -- ---- HEFT

  module _ (order : List ℕ) where
    -- the whole round is that of the tasks left, after the trials made
    abbrev pub LeftFor : ℕ → ℕ → Type 0
    LeftFor i trials = (Q : Partial) → TrialsOf Q x → Left m I Q order i trials

    -- and what it is known to be
    abbrev pub Found : Chosen → ℕ → Type 0
    Found choice trials = (Q : Partial) → TrialsOf Q x → record { choice = choice; trials = trials } ≡ first_that_fits m I Q order

    pub left-start : LeftFor 0 0
    left-start = λ Q T. left-all m I Q order

    pub left_end : {i trials : ℕ} → LeftFor i trials → i ≡ length order → Found nothing trials
    left_end left e = λ Q T. left-none m I Q order (left Q T) e

  module _ (order : List ℕ) {i : ℕ} (trials : ℕ) (h : i < length order) (left : LeftFor order i trials) (l : get_or order i 0 < (length x.job.tasks.now)) {n : Need}
      (r : n ≡ need_at x.needs.now (get_or order i 0)) where
    pub left-by : n.ready ≡ false → LeftFor order (i + 1) trials
    left-by t = λ Q T. left-waits m I Q order trials h (left Q T) (stands T l r ∙ t)

    module _ (t : n.ready ≡ true) (found : Option Trial) (o : TriedBoth found (get_or order i 0)) {y : Bool} (c : y ≡ is_some found) where
      pub left-on : y ≡ false → LeftFor order (i + 1) (trials + 2)
      left-on z = λ Q T.
          let d = stands T l r ∙ t in
          left-next m I Q order trials h (left Q T) d found (o Q T d) c z

      pub left-found : y ≡ true → Found order (as_choice found) (trials + 2)
      left-found z = λ Q T.
          let d = stands T l r ∙ t in
          left-taken m I Q order trials h (left Q T) d found (o Q T d) c z
