-- The planner's state between two rounds, with `placed` tasks placed: what is kept beside the partial schedule, that the schedule is sound,
-- and that the rule's outcome is what the rounds that are left make of it.
use lib.ListN.{length}
use Prim.Native.Nat.{ℕ, suc, ◌+◌, ◌*◌, ◌-◌, ◌≤◌, ◌<◌}
use mathlib.Core.List.{List}
use mathlib.Core.Path.{◌≡◌, refl, sym, ap, ◌∙◌}
use native.Mathlib.Omega.{arith}
use native.Mathlib.Numerals.{add-one}
use Rattle.rules.specs.Limits.{max_tasks, ticks}
use Rattle.rules.specs.Model.{blue, red, Instance, task_count}
use Rattle.rules.specs.Model.{Colour as RulesColour}
use Rattle.rules.specs.Validity.{Complete}
use Rattle.rules.specs.Scheduling.{Partial, Memory, aware, plain, empty, assign, nothing, choose, Planner, memory_of, round_of, complete, stuck, rounds, outcome}
use Rattle.rules.specs.Promises.{WellFormed, Trial as IsTrial, Ample}
use Rattle.rules.specs.Staircase.{Placed, unplaced}
use Rattle.rules.proofs.RoundLaws.{round-trial}
use Rattle.rules.proofs.PlacedLaws.{all-counted, count-waits}
use Rattle.rules.proofs.SoundLaws.{Sound, stride, assign-sound, empty-sound, move_bound, horizon-bound}
use Rattle.rules.proofs.StairsLaws.{placed-sound}
use Rattle.rules.proofs.LoosenedLaws.{aware-trial}
use Rattle.rules.proofs.TurnLaws.{rounds-stuck, rounds-place, rounds-done, outcome-is}
use Rattle.model.specs.declared.colour.Colour.{Colour}
use Rattle.model.specs.declared.colour.Colour.TheVariants.{Blue, Red}
use Rattle.model.specs.Colours.{as_colour}
use Rattle.model.specs.declared.job.Job.{Job}
use Rattle.model.specs.Layout.{Entries, ScheduleBounds, LastBoundsOn}
use Rattle.model.specs.Jobs.{instance_in, schedule_by, partial_by}
use Rattle.model.proofs.JobLaws.{tasks-in, files-in, limit-in, run-in, move-in, last-finish-at}
use Rattle.std.specs.Prelude.{Option, None, Some}
use Rattle.rules.specs.Staircase.{Step}
use Rattle.model.specs.declared.colour.ByColour.{ByColour}
use Rattle.model.specs.declared.trial.Trial.{Trial}
use Rattle.staircase.specs.Stairs.{HoldsStairs}
use Rattle.staircase.proofs.StairsLaws.{holds-ticks}
use Rattle.needs.specs.declared.table.Needs.{Needs}
use Rattle.needs.specs.Tables.{Right}
use Rattle.starts.specs.Kept.{Kept, StairsBounds, TicksWithin}
use Rattle.selection.specs.declared.round.Round.{Round}
use Rattle.selection.specs.Choices.{as_choice, as_round, TrialBounds, ChoiceBounds}
use Rattle.planner.specs.Outcomes.{FreeWithin}
use Rattle.planner.specs.Boards.{Suited}
use Rattle.planner.proofs.ClaimLaws.{holds-one, free-first}

pub record Planning (R : Planner) (j : Job) (L : Entries) (last : List ℕ) (table : Needs) (stairs : ByColour (List Step)) (placed trials : ℕ) : Type 0 where
  pub most : placed ≤ (length j.tasks.now)
  pub sound : Sound (instance_in j) placed (partial_by j L last)
  pub kept : Kept (instance_in j) (partial_by j L last) table stairs
  pub rest : outcome R (instance_in j) ≡ rounds R (instance_in j) ((length j.tasks.now) - placed) (partial_by j L last) trials
  pub counted : trials ≤ 2 * max_tasks * placed

-- a trial of a planner that goes by its own board is one of a memory-aware planner
suited-trial : (m : Memory) (I : Instance) → WellFormed I → (m ≡ plain → Ample I) → (Q : Partial) (i : ℕ) (c : RulesColour) (s : ℕ) → IsTrial m I Q i c s → IsTrial aware I Q i c s
suited-trial aware I W a Q i c s t = t
suited-trial plain I W a Q i c s t = aware-trial I W (a refl) Q plain i c s t

-- ---- what follows from a sound schedule of few tasks

module _ (j : Job) (W : WellFormed (instance_in j)) (L : Entries) (last : List ℕ) {placed : ℕ}
    (S : Sound (instance_in j) placed (partial_by j L last)) (most : placed ≤ (length j.tasks.now)) where
  few : placed * stride ≤ ticks.most
  few = omega (arith, j.in_bounds.tasks)

  pub sound-bounds : ScheduleBounds (length j.tasks.now) (length j.files.now) L
  sound-bounds = record {
    start = λ i h. omega (arith, ap (λ r. r.start) (run-in j L i h), S.start_bound i, few);
    move_start = λ k h. omega (arith, move-in j L k h, move_bound (instance_in j) placed (partial_by j L last) S k (omega (arith, files-in j)), few);
  }

  pub sound-last : LastBoundsOn j.board last
  sound-last q h = omega (arith, last-finish-at j L last q h, S.last_bound q, few)

  pub sound-ticks : (c : RulesColour) {ss : List Step} → HoldsStairs (instance_in j) (schedule_by j L) c ss → TicksWithin ss
  sound-ticks c H = record {
    last = λ k l. omega (arith, holds-ticks H k l, horizon-bound (instance_in j) W placed (partial_by j L last) S c, few);
  }

-- the schedule that placings lead to is sound, and has no more tasks placed than there are
pub placed-bounds : (j : Job) → WellFormed (instance_in j) → (L : Entries) (last : List ℕ) → Placed (instance_in j) (partial_by j L last) → ScheduleBounds (length j.tasks.now) (length j.files.now) L
placed-bounds j W L last p =
    let r = placed-sound (instance_in j) W p in
    sound-bounds j W L last r.1 (omega (arith, r.1.count, count-waits (instance_in j) (schedule_by j L), tasks-in j))

pub chosen-bounds : (n : ℕ) {o : Option Trial} {t : Trial} → o ≡ Some t → ChoiceBounds n o → TrialBounds n t
chosen-bounds n e h = rw e at h

-- nothing placed
pub empty-bounds : (j : Job) → WellFormed (instance_in j) → (L : Entries) (last : List ℕ) → partial_by j L last ≡ empty (instance_in j) → ScheduleBounds (length j.tasks.now) (length j.files.now) L
empty-bounds j W L last e = sound-bounds j W L last {placed = 0} (rw e (empty-sound (instance_in j))) (omega arith)

-- ---- the rounds

module _ (R : Planner) (j : Job) (W : WellFormed (instance_in j)) (A : Suited R (instance_in j)) where
  abbrev I : Instance
  I = instance_in j

  pub planning-start : (L : Entries) (last : List ℕ) (table : Needs) {stairs : ByColour (List Step)} → partial_by j L last ≡ empty I
      → Right I (schedule_by j L) table
      → HoldsStairs I (empty I).schedule blue stairs.blue → HoldsStairs I (empty I).schedule red stairs.red
      → Planning R j L last table stairs 0 0
  planning-start L last table e needs hb hr = record {
    most = omega arith;
    sound = rw e (empty-sound I);
    kept = record {
      well_formed = W;
      placed = rw e unplaced;
      needs = needs;
      blue = rw (ap (λ q. q.schedule) e) hb;
      red = rw (ap (λ q. q.schedule) e) hr;
    };
    rest = outcome-is R I ∙ rw (tasks-in j, e, none-placed);
    counted = omega arith;
  }
    where
      none-placed : (length j.tasks.now) - 0 ≡ (length j.tasks.now)
      none-placed = omega arith

  module _ {L : Entries} {last : List ℕ} {table : Needs} {stairs : ByColour (List Step)} {placed trials : ℕ} (p : Planning R j L last table stairs placed trials) where
    abbrev Q : Partial
    Q = partial_by j L last

    -- ---- what a round asks

    pub planning-last : LastBoundsOn j.board last
    planning-last = sound-last j W L last p.sound p.most

    pub planning-stairs : StairsBounds stairs
    planning-stairs = record {
      blue = sound-ticks j W L last p.sound p.most blue p.kept.blue;
      red = sound-ticks j W L last p.sound p.most red p.kept.red;
    }

    -- ---- after a round, with a task left

    module _ (more : placed < (length j.tasks.now)) where
      one_more : (length j.tasks.now) - placed ≡ suc ((length j.tasks.now) - (placed + 1))
      one_more = omega arith

      module _ (x : Round) (made : as_round x ≡ round_of R I Q) where
        choice-is : as_choice x.choice ≡ (round_of R I Q).choice
        choice-is = ap (λ r. r.choice) made

        trials-are : trials + x.trials ≡ trials + (round_of R I Q).trials
        trials-are = ap (λ r. trials + r.trials) made

        pub planning-stuck : x.choice ≡ None → stuck placed (trials + x.trials) ≡ outcome R I
        planning-stuck none =
            let e : (round_of R I Q).choice ≡ nothing = sym choice-is ∙ rw none in
            let left = (length j.tasks.now) - (placed + 1) in
            let count : task_count I - suc left ≡ placed = omega (arith, tasks-in j) in
            let halt : rounds R I ((length j.tasks.now) - placed) Q trials ≡ stuck placed (trials + x.trials) =
            rw (one_more, trials-are) (rounds-stuck R I left Q trials e ∙ ap (λ k. stuck k (trials + (round_of R I Q).trials)) count) in
            sym (p.rest ∙ halt)

        module _ {t : Trial} (chosen : x.choice ≡ Some t) where
          abbrev i : ℕ
          i = t.task

          abbrev colour : Colour
          colour = t.colour

          abbrev s : ℕ
          s = t.start

          chosen_is : (round_of R I Q).choice ≡ choose i (as_colour colour) s
          chosen_is = sym choice-is ∙ rw chosen

          trial : IsTrial (memory_of R) I Q i (as_colour colour) s
          trial = round-trial R I Q i (as_colour colour) s chosen_is

          pub planning-trial : IsTrial aware I Q i (as_colour colour) s
          planning-trial = suited-trial (memory_of R) I W A Q i (as_colour colour) s trial

          pub planning-next : {L' : Entries} {last' : List ℕ} {table' : Needs} {stairs' : ByColour (List Step)} → partial_by j L' last' ≡ assign I Q i (as_colour colour) s
              → Kept I (partial_by j L' last') table' stairs' → x.trials ≤ 2 * (length j.tasks.now)
              → Planning R j L' last' table' stairs' (placed + 1) (trials + x.trials)
          planning-next q kept t = record {
            most = omega arith;
            sound = rw (add-one placed, q) (assign-sound I W placed Q p.sound (memory_of R) i (as_colour colour) s trial);
            kept = kept;
            rest = p.rest ∙ rw (one_more, q, trials-are) (rounds-place R I ((length j.tasks.now) - (placed + 1)) Q trials i (as_colour colour) s chosen_is);
            counted = omega (arith, p.counted, j.in_bounds.tasks);
          }

    -- ---- at the end

    pub planning-done : (length j.tasks.now) ≤ placed → complete (schedule_by j L) trials ≡ outcome R I
    planning-done h =
        let none : (length j.tasks.now) - placed ≡ 0 = omega arith in
        sym (p.rest ∙ rw none (rounds-done R I Q trials))

    pub planning-complete : (length j.tasks.now) ≤ placed → Complete I (schedule_by j L)
    planning-complete h = all-counted I (schedule_by j L) (omega (arith, p.sound.count, p.most, tasks-in j))

    pub planning-free : FreeWithin j.board.blue.limit stairs.blue × FreeWithin j.board.red.limit stairs.red
    planning-free = (
      record { one = holds-one W p.kept.blue; first = omega (arith, free-first W p.kept.blue, limit-in j Blue) },
      record { one = holds-one W p.kept.red; first = omega (arith, free-first W p.kept.red, limit-in j Red) },
    )
