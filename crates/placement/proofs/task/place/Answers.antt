-- `place` meets its contract: the placing is that of any last finishes, and the finish written is in the bound.
use Rattle.model.specs.Colours.{as_colour}
use Rattle.model.specs.Jobs.{instance_in}
use Rattle.placement.proofs.PlaceLaws.{bounds-kept}
use Rattle.placement.proofs.task.place.Goals as goal

pub invariant_of-finishes : goal.invariant_of-finishes
invariant_of-finishes c =
    bounds-kept (instance_in c.args.links.now.job) c.requires.well_formed (rw c.finishes.view_is c.requires.placed) c.args.trial.task
    (as_colour c.args.trial.colour) c.args.trial.start (rw c.finishes.view_is c.requires.trial.0) c.place_any.ensures.finishes_value c.finishes.invariant
