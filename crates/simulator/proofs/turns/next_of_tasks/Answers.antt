-- `next_of_tasks` meets its contract.
use lib.ListN.{length}
use Rattle.std.proofs.Common.{refl, rules}
use Rattle.rules.specs.Count.{any_below}
use Rattle.rules.specs.Simulation.{task_turns}
use Rattle.model.specs.Jobs.{instance_in, schedule_in}
use Rattle.model.proofs.JobLaws.{tasks-in}
use Rattle.simulator.specs.Turns.{Soonest}
use Rattle.simulator.proofs.FoldLaws.{fold-range}
use Rattle.simulator.proofs.SoonestLaws.{soonest-begins, soonest-turn}
use Rattle.simulator.proofs.turns.next_of_tasks.Goals as goal

pub returns : goal.returns
returns c =
    let t = c.args.t.now in
    let p = task_turns (instance_in t.job) (schedule_in t) in
    rw (tasks-in t.job)
    (fold-range _ _ (length t.job.tasks.now) (λ n o. Soonest (λ u. any_below n (p u)) c.args.from o) (search rules) (λ k a b l h e. search (rules, soonest-turn p c.args.from k a b)) _ _ _ refl refl
    (soonest-begins p c.args.from) c.fold.ensures.ran)
