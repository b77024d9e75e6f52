-- The files before the next one have moved in.
use Rattle.links.specs.declared.chains.End.TheVariants.{Reader}
use Rattle.links.specs.Files.{place, Of}
use Rattle.staircase.specs.Stairs.{Made}
use Rattle.placement.specs.Memory.{moves_of}
use Rattle.placement.proofs.memory.move_all_in.Given as goal

abbrev pub invariant-loop-k : goal.invariant-loop-k
invariant-loop-k l = record {
  of : Of l.links.job Reader l.trial.task l.k-iterator;
  made : Made (moves_of l.links.job l.schedule l.trial 0 (place l.k-iterator)) l.initial.staircase l.staircase;
}
