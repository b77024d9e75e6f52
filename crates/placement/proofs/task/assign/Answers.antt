-- `assign` meets its contract: the three writes are the rules' `assign`.
use mathlib.Core.Path.{◌∙◌}
use Rattle.model.specs.Jobs.{instance_in, schedule_of}
use Rattle.model.proofs.JobLaws.{on-board}
use Rattle.placement.proofs.PlaceLaws.{assigned, finished}
use Rattle.placement.proofs.SlotLaws.{chosen-exists, chosen-some, chosen-is}
use Rattle.placement.proofs.task.assign.Goals as goal

pub unwrap-p-requires : goal.unwrap-p-requires
unwrap-p-requires c =
    let a = c.args in
    let j = a.links.now.job in
    let P = schedule_of j a.schedule.now in
    chosen-some j.board a.finishes.now a.trial.colour a.trial.start (on-board j) P j.in_bounds.processors c.requires.colour_bound
    c.chosen_processor.result (c.chosen_processor.ensures.value (instance_in j) P (on-board j))

pub returns : goal.returns
returns c =
    let a = c.args in
    let j = a.links.now.job in
    let P = schedule_of j a.schedule.now in
    let value = c.chosen_processor.ensures.value (instance_in j) P (on-board j) in
    let chosen = chosen-is j.board a.finishes.now a.trial.colour a.trial.start (on-board j) P c.unwrap-p.ensures value in
    let exists = chosen-exists j.board a.finishes.now a.trial.colour a.trial.start (on-board j) P j.in_bounds.processors c.requires.colour_bound chosen in
    let run = c.set_run.ensures in
    let size = c.set_moves.ensures.schedule_len_2 in
    let same = c.set_moves.ensures.by_index in
    let here = c.slot_in-slot.ensures.value in
    let takes = c.run_time.ensures.value in record {
      schedule_len_2 = run.schedule_len.1;
      finishes_after = rw c.set.ensures.value (assigned j a.schedule.now a.finishes.now a.trial.colour c.requires.i_lt_tasks.0 a.trial.start
          c.set_moves.new.schedule size same c.unwrap-p.result c.set.ensures.whole
          c.set_moves.ensures.schedule_after chosen exists here takes run.schedule_after);
      finishes_value = c.set.ensures.value ∙ finished j a.schedule.now a.finishes.now a.trial.colour c.requires.i_lt_tasks.0 a.trial.start
          c.unwrap-p.result chosen here takes;
    }
