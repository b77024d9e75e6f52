-- `with_file` meets its contract.
use Rattle.model.specs.Colours.{as_colour}
use Rattle.model.specs.Layout.{entries_of}
use Rattle.needs.proofs.DemandLaws.{demand-next}
use Rattle.needs.proofs.demand.with_file.Goals as goal

pub returns-clause-demand_below_2 : goal.returns-clause-demand_below_2
returns-clause-demand_below_2 c =
    let t = c.args.plan.now in
    demand-next t.job (entries_of t.schedule.now) c.args.task (as_colour c.args.colour) c.requires.k_lt_files
    c.requires.demand_below c.maker.ensures.value c.requires.read c.cost_for-cost.ensures.cost_of c.finish.ensures.value c.max.ensures c.max-2.ensures
