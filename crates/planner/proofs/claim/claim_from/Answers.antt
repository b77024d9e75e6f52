-- `claim_from` meets its contract.
use Rattle.staircase.specs.Steps.{as_steps}
use Rattle.planner.proofs.ClaimLaws.{claim-true}
use Rattle.planner.proofs.claim.claim_from.Goals as goal

pub returns : goal.returns
returns c =
    let a = c.args in
    λ I P table stairs on d e K done.
    claim-true on P a.finishes.now K done _ (as_steps a.blue.now) (as_steps a.red.now) d e (c.latest_finish.ensures I P on) c.peak.ensures c.peak-2.ensures
