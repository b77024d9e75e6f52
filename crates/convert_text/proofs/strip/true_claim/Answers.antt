-- `true_claim` meets its contract.
use Rattle.convert_text.proofs.LeftLaws.{claim-by-changes}
use Rattle.convert_text.proofs.strip.true_claim.Goals as goal

pub returns : goal.returns
returns c =
    let t = c.args.t.now in
    claim-by-changes t.job t.schedule.now c.requires.well_formed c.requires.placed c.requires.all_on_time
    c.walk_memories-found.ensures c.makespan.ensures.value
