-- `run` meets its contract: what is planned on the planner's own board is the outcome on the sheet's.
use Rattle.planner.specs.Outcomes.{as_planner}
use Rattle.planner.proofs.BoardLaws.{own-asks, own-ends, own-claims}
use Rattle.planner.proofs.run.Goals as goal

pub start-requires : goal.start-requires
start-requires c =
    let a = c.args in
    let j = a.job.now in record {
      well_formed = own-asks (as_planner a.rule) j c.memory_of.ensures c.board_by.ensures c.requires.well_formed;
      schedule_value = c.requires.schedule_value;
    }

pub returns : goal.returns
returns c =
    let a = c.args in
    let j = a.job.now in
    let e = c.memory_of.ensures in
    let g = c.board_by.ensures in record {
      schedule_after = own-ends (as_planner a.rule) j e g _ c.start.result c.start.ensures.schedule_after;
      claims = own-claims (as_planner a.rule) j e g _ c.start.result c.start.ensures.claims;
    }
