-- `rounds` meets its contract. The invariant: the planner's state between two rounds.
use Rattle.model.specs.Layout.{entries_of, WholeSchedule}
use Rattle.planner.specs.Outcomes.{as_planner}
use Rattle.planner.proofs.RunLaws.{Planning}
use Rattle.planner.proofs.rounds.rounds.Given as goal

abbrev pub invariant-loop-placed : goal.invariant-loop-placed
invariant-loop-placed l =
    WholeSchedule l.schedule
    × Planning (as_planner l.rule) l.links.job (entries_of l.schedule) l.state.finishes l.state.needs l.state.stairs l.placed l.trials
