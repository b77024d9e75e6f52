use lib.ListN.{length}
use Prim.Native.Nat.{ℕ}
use lib.ListN.{replicate}
use mathlib.Core.Path.{refl, sym, ap, ◌∙◌}
use native.Mathlib.Omega.{arith}
use Rattle.model.specs.declared.colour.Colour.TheVariants.{Blue, Red}
use Rattle.rules.specs.Limits.{all_processors}
use Rattle.model.specs.Layout.{entries_of}
use Rattle.model.specs.Jobs.{instance_in, schedule_of}
use Rattle.model.proofs.JobLaws.{on-board, limit-in}
use Rattle.rules.specs.Model as Rules
use Rattle.staircase.specs.Steps.{start_steps}
use Rattle.staircase.proofs.StairsLaws.{holds-start}
use Rattle.placement.proofs.PlaceLaws.{empty-from}
use Rattle.planner.proofs.RunLaws.{empty-bounds, chosen-bounds}
use Rattle.planner.specs.Outcomes.{as_planner, amounts}
use Rattle.planner.proofs.RunLaws.{planning-start, planning-last, planning-stairs, planning-stuck, planning-trial, planning-next}
use Rattle.planner.proofs.RunLaws.{planning-done, planning-complete, planning-free}
use Rattle.planner.proofs.rounds.rounds.Goals as goal

pub fill-requires : goal.fill-requires
fill-requires c =
    let a = c.args in
    let j = a.links.now.job in
    empty-bounds j c.requires.well_formed.0 (entries_of a.schedule.now) (replicate {A = ℕ} all_processors 0)
    (rw c.requires.schedule_value (empty-from j all_processors))

pub loop-placed-init : goal.loop-placed-init
loop-placed-init c =
    let a = c.args in
    let W = c.requires.well_formed.0 in
    let x = c.new-3.ensures in
    let y = c.new-4.ensures in (
      rw c.requires.schedule_value (refl, refl),
      planning-start (as_planner a.rule) a.links.now.job W c.requires.well_formed.1 _ _ _
          (rw (c.requires.schedule_value, c.new.ensures) (empty-from a.links.now.job all_processors))
          c.fill.ensures
          (holds-start W Rules.blue _ (x ∙ ap start_steps (sym (limit-in a.links.now.job Blue))))
          (holds-start W Rules.red _ (y ∙ ap start_steps (sym (limit-in a.links.now.job Red)))),
    )

pub round-found-requires : goal.round-found-requires
round-found-requires c =
    let a = c.args in
    let p = c.loop-placed.invariant.1 in record {
      bounds = planning-stairs (as_planner a.rule) a.links.now.job c.requires.well_formed.0 c.requires.well_formed.1 p;
      last_bounds = planning-last (as_planner a.rule) a.links.now.job c.requires.well_formed.0 c.requires.well_formed.1 p;
      order_bounds = c.requires.order_bounds;
      p_value = c.requires.p_value;
    }

pub overflow_add-trials : goal.overflow_add-trials
overflow_add-trials c =
    omega (
      arith,
      c.loop-placed.invariant.1.counted,
      c.round-found.ensures.choice_bounds.1,
      c.args.links.now.job.in_bounds.tasks,
      c.loop-placed.invariant.1.most,
    )

pub returns-in_default : goal.returns-in_default
returns-in_default c =
    let a = c.args in
    let p = c.loop-placed.invariant.1 in record {
      schedule_after = planning-stuck (as_planner a.rule) a.links.now.job c.requires.well_formed.0 c.requires.well_formed.1 p c.loop-placed-test.true
          c.round-found.result (c.round-found.ensures.result_value _ p.kept) c.in_default.is;
      claims = tt;
    }

pub place_task-requires : goal.place_task-requires
place_task-requires c =
    let a = c.args in
    let p = c.loop-placed.invariant.1 in
    let x = chosen-bounds (length a.links.now.job.tasks.now) c.in-Some.is c.round-found.ensures.choice_bounds.0 in record {
      kept = p.kept;
      start_bound = x.1;
      trial = planning-trial (as_planner a.rule) a.links.now.job c.requires.well_formed.0 c.requires.well_formed.1 p c.loop-placed-test.true
          c.round-found.result (c.round-found.ensures.result_value _ p.kept) c.in-Some.is;
      schedule_len = c.loop-placed.invariant.0;
    }

pub loop-placed-preserved : goal.loop-placed-preserved
loop-placed-preserved c =
    let a = c.args in
    let p = c.loop-placed.invariant.1 in
    let e = c.place_task.ensures in (
      e.schedule_len_2,
      planning-next (as_planner a.rule) a.links.now.job c.requires.well_formed.0 c.requires.well_formed.1 p c.loop-placed-test.true
          c.round-found.result (c.round-found.ensures.result_value _ p.kept) c.in-Some.is e.finishes_after e.kept_2 c.round-found.ensures.choice_bounds.1,
    )

pub claim_from-claim-requires : goal.claim_from-claim-requires
claim_from-claim-requires c =
    let a = c.args in
    let j = a.links.now.job in
    let free = planning-free (as_planner a.rule) j c.requires.well_formed.0 c.requires.well_formed.1 c.loop-placed.invariant.1 in record {
      processors = j.in_bounds.processors;
      free_within = (rw c.steps-blue.ensures free.0, rw c.steps-red.ensures free.1);
    }

pub returns : goal.returns
returns c =
    let a = c.args in
    let j = a.links.now.job in
    let p = c.loop-placed.invariant.1 in record {
      schedule_after = planning-done (as_planner a.rule) a.links.now.job c.requires.well_formed.0 c.requires.well_formed.1 p c.loop-placed-test.false;
      claims = c.claim_from-claim.ensures (instance_in j) (schedule_of j c.loop-placed.schedule) c.loop-placed.state.needs c.loop-placed.state.stairs (on-board j)
          (ap amounts (sym c.steps-blue.ensures)) (ap amounts (sym c.steps-red.ensures)) (rw c.as_any.ensures.value p.kept)
          (planning-complete (as_planner a.rule) a.links.now.job c.requires.well_formed.0 c.requires.well_formed.1 p c.loop-placed-test.false);
    }
