-- `round` meets its contract: each arm is the round of its rule.
use mathlib.Core.Path.{◌∙◌, ap}
use Rattle.model.specs.Jobs.{instance_in, partial_by}
use Rattle.starts.specs.Memories.{as_memory}
use Rattle.planner.proofs.RoundLaws.{heft-round, min-min-round}
use Rattle.planner.proofs.rounds.round.Goals as goal

pub returns-in-Heft-clause-result_value : goal.returns-in-Heft-clause-result_value
returns-in-Heft-clause-result_value c = λ L k.
    let j = c.args.job.now in
    let Q = partial_by j L c.args.state.now.finishes in
    let same = c.new-trials.ensures.same in
    let trials = rw c.as_any.ensures.value at (c.new-trials.ensures.trials_of L (rw c.as_any.ensures.value k)) in
    let found = rw same.1 at (c.first_that_fits.ensures.result_value Q trials) in
    heft-round (ap as_memory same.0 ∙ c.memory_of.ensures) (instance_in j) Q c.in-Heft.is c.requires.p_value found

pub returns-in-MinMin-clause-result_value : goal.returns-in-MinMin-clause-result_value
returns-in-MinMin-clause-result_value c = λ L k.
    let j = c.args.job.now in
    let Q = partial_by j L c.args.state.now.finishes in
    let same = c.new-trials.ensures.same in
    let trials = rw c.as_any.ensures.value at (c.new-trials.ensures.trials_of L (rw c.as_any.ensures.value k)) in
    let found = rw same.1 at (c.earliest_round.ensures.result_value Q trials) in
    min-min-round (ap as_memory same.0 ∙ c.memory_of.ensures) (instance_in j) Q c.in-MinMin.is found
