use Rattle.std.proofs.Common.{rules, tests}
use Rattle.staircase.proofs.ReadLaws.{positioned}
use Rattle.staircase.proofs.Staircase.position.Goals as goal

pub returns : goal.returns
returns c = positioned c.deref.result.now c.args.tick c.behind_last.result (c.deref.ensures.0) c.self.view_is c.behind_last.ensures.within
    (λ k e. let h = c.behind_last.ensures.met k e in search (rules, tests))
    (λ k l m. let h = c.behind_last.ensures.unmet k l m in search (rules, tests))
