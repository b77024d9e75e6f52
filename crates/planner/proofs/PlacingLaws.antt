-- What is kept beside a partial schedule, as one task more is placed.
use lib.ListN.{length}
use Prim.Native.Nat.{ℕ, ◌<◌}
use mathlib.Core.Bool.{true}
use mathlib.Core.List.{List}
use mathlib.Core.Path.{◌≡◌, sym, ap, ◌∙◌}
use native.Mathlib.Omega.{arith}
use Rattle.rules.specs.Limits.{max_tasks}
use Rattle.rules.specs.Model as Rules
use Rattle.rules.specs.Model.{Instance, Schedule, is_placed, run_at}
use Rattle.rules.specs.Promises.{Trial as IsTrial}
use Rattle.rules.specs.Scheduling.{Partial, aware, assign}
use Rattle.rules.specs.Staircase.{Placed, placed}
use Rattle.rules.proofs.PlacedLaws.{assign-placed}
use Rattle.rules.proofs.StairsLaws.{placed-sound}
use Rattle.model.specs.declared.colour.Colour.{Colour}
use Rattle.model.specs.Colours.{as_colour, own}
use Rattle.model.specs.declared.job.Job.{Job}
use Rattle.model.specs.Layout.{Entries, ScheduleBounds}
use Rattle.model.specs.Jobs.{instance_in, schedule_by, partial_by}
use Rattle.model.proofs.JobLaws.{tasks-in}
use Rattle.rules.specs.Staircase.{Step}
use Rattle.model.specs.declared.colour.ByColour.{ByColour}
use Rattle.model.specs.declared.trial.Trial.{Trial}
use Rattle.staircase.specs.Stairs.{HoldsStairs}
use Rattle.needs.specs.declared.table.Need.{Need}
use Rattle.needs.specs.declared.table.Needs.{Needs}
use Rattle.needs.specs.Tables.{need_at, Right, RightBut}
use Rattle.needs.proofs.NeedsLaws.{right-but}
use Rattle.starts.specs.Kept.{Kept}
use Rattle.placement.specs.declared.memory.Sizes.{Sizes}
use Rattle.placement.specs.Memory.{SizesOf}
use Rattle.planner.proofs.RunLaws.{placed-bounds}

module _ (j : Job) (L : Entries) (last : List ℕ) {table : Needs} {stairs : ByColour (List Step)}
    (K : Kept (instance_in j) (partial_by j L last) table stairs) (t : Trial)
    (T : IsTrial aware (instance_in j) (partial_by j L last) t.task (as_colour t.colour) t.start) where
  abbrev i : ℕ
  i = t.task

  abbrev colour : Colour
  colour = t.colour

  abbrev s : ℕ
  s = t.start

  abbrev I : Instance
  I = instance_in j

  abbrev Q : Partial
  Q = partial_by j L last

  pub trial-task : i < (length j.tasks.now)
  trial-task = omega (arith, T.exists, tasks-in j)

  pub trial-index : i < max_tasks
  trial-index = omega (arith, trial-task, j.in_bounds.tasks)

  pub placing-sizes : {n : Need} {x : Sizes} → n ≡ need_at table i → x.room ≡ n.room → x.kept ≡ n.kept → x.incoming ≡ (own colour n.demand).incoming
      → SizesOf I (schedule_by j L) t x
  placing-sizes e r k m =
      let s = K.needs.sized i T.exists in record {
        room = r ∙ ap (λ (n : Need). n.room) e ∙ s.room;
        kept = k ∙ ap (λ (n : Need). n.kept) e ∙ s.kept;
        incoming = m ∙ ap (λ (n : Need). (own colour n.demand).incoming) e ∙ ((K.needs.admitted i T.exists).demand T.is_ready colour).incoming;
      }

  -- with the task placed
  module _ (L' : Entries) (last' : List ℕ) (e : partial_by j L' last' ≡ assign I Q i (as_colour colour) s) where
    after : Placed I (partial_by j L' last')
    after = rw e (placed i (as_colour colour) s K.placed T)

    same : (assign I Q i (as_colour colour) s).schedule ≡ schedule_by j L'
    same = sym (ap (λ q. q.schedule) e)

    pub after-bounds : ScheduleBounds (length j.tasks.now) (length j.files.now) L'
    after-bounds = placed-bounds j K.well_formed L' last' after

    pub after-placed : is_placed (run_at (schedule_by j L') i) ≡ true
    after-placed = rw (sym same) (assign-placed I Q i (as_colour colour) s (omega (arith, (placed-sound I K.well_formed K.placed).1.runs, T.exists)))

    pub after-needs : RightBut I (schedule_by j L') i table
    after-needs = rw (sym same) (right-but I Q i (as_colour colour) s K.needs)

    pub after_kept : {table' : Needs} {stairs' : ByColour (List Step)} → Right I (schedule_by j L') table'
        → HoldsStairs I (assign I Q i (as_colour colour) s).schedule Rules.blue stairs'.blue
        → HoldsStairs I (assign I Q i (as_colour colour) s).schedule Rules.red stairs'.red
        → Kept I (partial_by j L' last') table' stairs'
    after_kept needs x y = record {
      well_formed = K.well_formed;
      placed = after;
      needs = needs;
      blue = rw (sym same) x;
      red = rw (sym same) y;
    }
