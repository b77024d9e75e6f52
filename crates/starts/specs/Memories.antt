-- The code's mark for memory, as the rules have it.
use Rattle.rules.specs.Scheduling as Rules
use Rattle.starts.specs.declared.memory.Memory.{Memory}
use Rattle.starts.specs.declared.memory.Memory.TheVariants.{Aware, Plain}

abbrev pub as_memory : Memory → Rules.Memory
as_memory Aware = Rules.aware
as_memory Plain = Rules.plain
