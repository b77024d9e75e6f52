-- The move starts of the files before the next one are set.
use Rattle.model.specs.Colours.{as_colour}
use Rattle.links.specs.declared.chains.End.TheVariants.{Reader}
use Rattle.links.specs.Files.{place, Of}
use Rattle.placement.proofs.MoveLaws.{MovesTo}
use Rattle.placement.proofs.moves.set_moves.Given as goal

abbrev pub invariant-loop-k : goal.invariant-loop-k
invariant-loop-k l = record {
  of : Of l.links.job Reader l.trial.task l.k-iterator;
  moves : MovesTo l.links.job l.initial.schedule l.trial.task (as_colour l.trial.colour) l.trial.start l.schedule (place l.k-iterator);
}
