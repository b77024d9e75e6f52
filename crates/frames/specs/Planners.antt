-- A planner by its name, as the rules have it.
use Rattle.rules.specs.Scheduling as Rules
use Rattle.frames.specs.declared.planners.Planner.{Planner}
use Rattle.frames.specs.declared.planners.Planner.TheVariants.{MemHeft, MemMinMin, Heft, MinMin}

abbrev pub as_planner : Planner → Rules.Planner
as_planner MemHeft = Rules.mem_heft
as_planner MemMinMin = Rules.mem_min_min
as_planner Heft = Rules.heft Rules.plain
as_planner MinMin = Rules.min_min Rules.plain
