-- `occupy` meets its contract: the moves in, the beginning and the release, one after the other.
use native.Mathlib.Omega.{arith}
use Rattle.placement.proofs.MemoryLaws.{occupy-moves, occupy-begins, occupy-releases, occupied}
use Rattle.placement.proofs.memory.occupy.Goals as goal

pub overflow_add-finish : goal.overflow_add-finish
overflow_add-finish c =
    omega (arith, c.requires.trial.1, c.run_time.ensures.upper_bound)

pub move_all_in-requires : goal.move_all_in-requires
move_all_in-requires c =
    let moves = occupy-moves c.args.links.now.job c.args.schedule.now c.args.placing.trial c.requires.sizes_of c.requires.trial.0
    c.run_time.ensures.value c.max-release.ensures c.requires.pending in record {
      i_lt_tasks = c.requires.trial.0;
      pending = moves;
    }

pub change_if-requires : goal.change_if-requires
change_if-requires c =
    occupy-begins c.args.links.now.job c.args.schedule.now c.args.placing.trial c.requires.sizes_of c.requires.trial.0
    c.run_time.ensures.value c.max-release.ensures c.requires.pending c.move_all_in.ensures

pub change_if-requires-2 : goal.change_if-requires-2
change_if-requires-2 c =
    occupy-releases c.args.links.now.job c.args.schedule.now c.args.placing.trial c.requires.sizes_of c.requires.trial.0
    c.run_time.ensures.value c.max-release.ensures c.requires.pending
    c.move_all_in.ensures c.change_if.ensures

pub returns : goal.returns
returns c =
    occupied c.args.links.now.job c.args.schedule.now c.args.placing.trial c.requires.sizes_of c.requires.trial.0
    c.run_time.ensures.value c.max-release.ensures c.requires.pending
    c.move_all_in.ensures c.change_if.ensures c.change_if-2.ensures
