-- `place_task` meets its contract: the placing keeps the staircases, and the needs are renewed.
use mathlib.Core.Path.{refl, ap}
use Rattle.model.specs.Layout.{entries_of}
use Rattle.planner.proofs.PlacingLaws.{trial-task, trial-index, placing-sizes, after-bounds, after-needs, after-placed, after_kept}
use Rattle.planner.proofs.rounds.place_task.Goals as goal

pub of-need-requires : goal.of-need-requires
of-need-requires c =
    let j = c.args.links.now.job in
    trial-index j (entries_of c.args.schedule.now) c.args.state.now.finishes c.requires.kept c.args.trial c.requires.trial

pub place-requires : goal.place-requires
place-requires c =
    let a = c.args in
    let j = a.links.now.job in
    let K = c.requires.kept in
    let T = c.requires.trial in record {
      well_formed = K.well_formed;
      schedule_len = c.requires.schedule_len;
      placed = K.placed;
      trial = (T, c.requires.start_bound);
      sizes_of = placing-sizes j (entries_of a.schedule.now) a.state.now.finishes K a.trial T c.of-need.ensures.value refl refl
          (ap (λ d. d.incoming) c.get.ensures);
      holds_stairs = K.blue;
      holds_stairs_2 = K.red;
    }

pub renew-requires : goal.renew-requires
renew-requires c =
    let a = c.args in
    let j = a.links.now.job in
    let L = entries_of a.schedule.now in
    let K = c.requires.kept in
    let T = c.requires.trial in
    let M = entries_of c.place.new.schedule in
    let z = c.place.new.finishes in
    let e = c.place.ensures.finishes_after in record {
      schedule_in_bounds = after-bounds j L a.state.now.finishes K a.trial T M z e;
      right_but = after-needs j L a.state.now.finishes K a.trial T M z e;
      i_lt_tasks = (trial-task j L a.state.now.finishes K a.trial T, after-placed j L a.state.now.finishes K a.trial T M z e);
    }

pub returns : goal.returns
returns c =
    let a = c.args in
    let j = a.links.now.job in
    let p = c.place.ensures in record {
      finishes_after = p.finishes_after;
      kept_2 = after_kept j (entries_of a.schedule.now) a.state.now.finishes c.requires.kept a.trial c.requires.trial
          (entries_of c.place.new.schedule) c.place.new.finishes p.finishes_after c.renew.ensures p.holds_stairs_3 p.holds_stairs_4;
      schedule_len_2 = p.schedule_len_2;
    }
