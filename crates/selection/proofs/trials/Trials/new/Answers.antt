-- `new` meets its contract: the steps are those of the staircases, and start 1 of each colour is that of the job's own board.
use Rattle.model.specs.Jobs.{instance_in, schedule_by}
use Rattle.model.proofs.JobLaws.{on-board}
use Rattle.selection.proofs.ChoiceLaws.{kept_as}
use Rattle.selection.proofs.trials.Trials.new.Goals as goal

pub returns-clause-trials_of : goal.returns-clause-trials_of
returns-clause-trials_of c = λ L K.
    let j = c.args.job in
    let I = instance_in j in
    let P = schedule_by j L in record {
      kept = kept_as K c.steps.ensures c.steps-2.ensures;
      idle = record {
        blue = c.processor_start.ensures.value I P (on-board j);
        red = c.processor_start-2.ensures.value I P (on-board j);
      };
    }
