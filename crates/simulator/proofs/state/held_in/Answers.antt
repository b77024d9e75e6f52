-- `held_in` meets its contract.
use Rattle.std.proofs.Common.{◌≡◌, ◌∙◌, ltb, true, false, arith}
use borrow.Author.Tests.{lt-ltb, le-ltb}
use Rattle.rules.specs.Model.{file_count}
use Rattle.rules.specs.Simulation.{held_in}
use Rattle.model.specs.Jobs.{instance_in}
use Rattle.model.proofs.JobLaws.{files-in}
use Rattle.simulator.proofs.state.held_in.Goals as goal

pub returns-then-t-k : goal.returns-then-t-k
unfolding held_in
returns-then-t-k c =
    let none : ltb c.args.k (file_count (instance_in c.args.t.now.job)) ≡ false = le-ltb _ _ (omega (arith, files-in c.args.t.now.job)) in
    rw none

pub returns : goal.returns
unfolding held_in
returns c =
    let some : ltb c.args.k (file_count (instance_in c.args.t.now.job)) ≡ true = lt-ltb _ _ (omega (arith, files-in c.args.t.now.job)) in
    rw some (c.memory_number.ensures ∙ cc)
