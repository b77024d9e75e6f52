-- `both_memories` meets its contract: the own memory is the one of the task's colour.
use Rattle.rules.specs.Model.{blue, red}
use Rattle.placement.proofs.MemoryLaws.{pending-is, made-is, in-own, in-other, same-blue, same-red}
use Rattle.placement.proofs.memory.both_memories.Goals as goal

pub occupy-requires : goal.occupy-requires
occupy-requires c =
    let e = same-blue c.in-Blue.is in
    let own = pending-is (in-own c.args.links.now.job c.args.schedule.now c.args.placing.trial c.requires.sizes_of blue e.0) c.requires.pending in record {
      trial = c.requires.trial;
      sizes_of = c.requires.sizes_of;
      pending = own;
    }

pub vacate-requires : goal.vacate-requires
vacate-requires c =
    let e = same-blue c.in-Blue.is in
    pending-is (in-other c.args.links.now.job c.args.schedule.now c.args.placing.trial c.requires.sizes_of red e.1) c.requires.pending_2

pub occupy-requires-in-Red : goal.occupy-requires-in-Red
occupy-requires-in-Red c =
    let e = same-red c.in-Red.is in
    let own = pending-is (in-own c.args.links.now.job c.args.schedule.now c.args.placing.trial c.requires.sizes_of red e.1) c.requires.pending_2 in record {
      trial = c.requires.trial;
      sizes_of = c.requires.sizes_of;
      pending = own;
    }

pub vacate-requires-in-Red : goal.vacate-requires-in-Red
vacate-requires-in-Red c =
    let e = same-red c.in-Red.is in
    pending-is (in-other c.args.links.now.job c.args.schedule.now c.args.placing.trial c.requires.sizes_of blue e.0) c.requires.pending

pub returns-in-Blue : goal.returns-in-Blue
returns-in-Blue c =
    let e = same-blue c.in-Blue.is in record {
      made = made-is (in-own c.args.links.now.job c.args.schedule.now c.args.placing.trial c.requires.sizes_of blue e.0)
          c.occupy.ensures;
      made_2 = made-is (in-other c.args.links.now.job c.args.schedule.now c.args.placing.trial c.requires.sizes_of red e.1) c.vacate.ensures;
    }

pub returns-in-Red : goal.returns-in-Red
returns-in-Red c =
    let e = same-red c.in-Red.is in record {
      made = made-is (in-other c.args.links.now.job c.args.schedule.now c.args.placing.trial c.requires.sizes_of blue e.0) c.vacate-in-Red.ensures;
      made_2 = made-is (in-own c.args.links.now.job c.args.schedule.now c.args.placing.trial c.requires.sizes_of red e.1)
          c.occupy-in-Red.ensures;
    }
