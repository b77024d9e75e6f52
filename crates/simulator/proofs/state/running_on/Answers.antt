-- `running_on` meets its contract: what is found is the lowest task that occupies the processor.
use Rattle.std.proofs.Common.{◌≡◌, ℕ, true, false, length, rules}
use Rattle.std.proofs.lemmas.Iterator.{first_from_Range}
use Rattle.rules.specs.Simulation.{occupies}
use Rattle.model.specs.Jobs.{instance_in, schedule_in}
use Rattle.model.proofs.JobLaws.{tasks-in}
use Rattle.simulator.proofs.StateLaws.{runs-first}
use Rattle.simulator.proofs.state.running_on.Goals as goal

pub returns : goal.returns
returns c =
    let t = c.args.t.now in
    let q = occupies (instance_in t.job) (schedule_in t) c.args.processor c.args.tick in
    runs-first (instance_in t.job) (schedule_in t) c.args.tick c.args.processor (length t.job.tasks.now) c.find.result (tasks-in t.job) (search rules)
    (first_from_Range _ _ _ c.find.result (λ (i : ℕ). q i ≡ true) (λ (i : ℕ). q i ≡ false) c.find.ensures.ran
    (λ i f e. search rules) (λ i f e. search rules))
