-- `place_any` meets its contract: the staircases are changed by the timetable before the placing, and then the timetable is written.
use native.Mathlib.Omega.{arith}
use Rattle.rules.specs.Model.{blue, red}
use Rattle.rules.specs.Scheduling.{aware}
use Rattle.rules.proofs.StartLaws.{starts}
use Rattle.model.specs.Colours.{as_colour}
use Rattle.model.specs.Jobs.{partial_of, instance_in}
use Rattle.model.proofs.JobLaws.{tasks-in}
use Rattle.staircase.proofs.StairsLaws.{pending-placing, holds-placed}
use Rattle.placement.proofs.task.place_any.Goals as goal

pub both_memories-requires : goal.both_memories-requires
both_memories-requires c =
    let j = c.args.links.now.job in
    let I = instance_in c.args.links.now.job in
    let Q = partial_of j c.args.schedule.now c.args.finishes.now in
    let W = c.requires.well_formed in
    let T = c.requires.trial.0 in
    let i = c.args.trial.task in
    let x = as_colour c.args.trial.colour in
    let t = c.args.trial.start in record {
      trial = (omega (arith, T.exists, tasks-in c.args.links.now.job), c.requires.trial.1);
      sizes_of = c.requires.sizes_of;
      pending = pending-placing I W Q c.requires.placed i x t T blue c.requires.holds_stairs;
      pending_2 = pending-placing I W Q c.requires.placed i x t T red c.requires.holds_stairs_2;
    }

pub assign-requires : goal.assign-requires
assign-requires c =
    let j = c.args.links.now.job in
    let Q = partial_of j c.args.schedule.now c.args.finishes.now in
    let p = c.requires.trial in
    let st = starts aware (instance_in c.args.links.now.job) Q c.args.trial.task (as_colour c.args.trial.colour) c.args.trial.start p.0.earliest in record {
      schedule_len = c.requires.schedule_len;
      i_lt_tasks = (omega (arith, p.0.exists, tasks-in c.args.links.now.job), p.1);
      colour_bound = omega (arith, st.start);
    }

pub returns : goal.returns
returns c =
    let I = instance_in c.args.links.now.job in
    let Q = partial_of c.args.links.now.job c.args.schedule.now c.args.finishes.now in
    let W = c.requires.well_formed in
    let T = c.requires.trial.0 in
    let i = c.args.trial.task in
    let x = as_colour c.args.trial.colour in
    let t = c.args.trial.start in
    let made = c.both_memories.ensures in record {
      schedule_len_2 = c.assign.ensures.schedule_len_2;
      finishes_after = c.assign.ensures.finishes_after;
      finishes_value = c.assign.ensures.finishes_value;
      holds_stairs_3 = holds-placed I W Q c.requires.placed i x t T blue c.requires.holds_stairs made.made;
      holds_stairs_4 = holds-placed I W Q c.requires.placed i x t T red c.requires.holds_stairs_2 made.made_2;
    }
