use Rattle.std.proofs.Common.{rules, tests, length, ◌∙◌}
use Rattle.staircase.proofs.ReadLaws.{settled_read, first_or}
use Rattle.staircase.proofs.steps.settled.Goals as goal

pub returns-clause-value : goal.returns-clause-value
returns-clause-value c =
    let k = c.behind_last-k.ensures in
    first_or c.behind_last-k.result (length c.args.steps.now) k.within c.then_some.ensures
    ∙ settled_read c.args.steps.now c.args.need c.behind_last-k.result k.within
    (λ i e. let h = k.met i e in search (rules, tests))
    (λ i l m. let h = k.unmet i l m in search (rules, tests))
