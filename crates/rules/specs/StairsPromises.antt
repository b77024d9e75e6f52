-- What Order 9 promises of the staircases of a whole plan: where they start, what span and peaks are read from them, and that a plain planner may keep
-- those of a board with the greatest limits.
use Rattle.std.specs.Prelude.{◌-◌, [], ◌∷◌, ◌≡◌, get_or}
use Rattle.rules.specs.Count.{max_below}
use Rattle.rules.specs.Limits.{memory_limits}
use Rattle.rules.specs.Model.{Colour, Instance, limit_of, processor_count, Schedule}
use Rattle.rules.specs.Validity.{Complete, makespan, peak, true_claim}
use Rattle.rules.specs.Scheduling.{Partial, empty, plain, Planner, memory_of, outcome}
use Rattle.rules.specs.Promises.{WellFormed, Ample}
use Rattle.rules.specs.Staircase.{stairs, least_free, Placed}

-- with nothing placed all of a memory is free: one pair.
-- Not: no pair; a pair at the tick of the first run
abbrev pub StairsStart : Type 0
StairsStart = (I : Instance) → WellFormed I → (c : Colour) → stairs I (empty I).schedule c ≡ record { tick = 0; free = limit_of I c } ∷ []

-- when all is placed, a memory's peak is its limit less the least amount of its staircase.
-- Not: the limit less the last pair's amount; the limit itself
abbrev pub StairsPeak : Type 0
StairsPeak =
    (I : Instance) → WellFormed I → (Q : Partial) → Placed I Q → Complete I Q.schedule → (c : Colour)
    → peak I Q.schedule c ≡ limit_of I c - least_free (stairs I Q.schedule c)

-- and the span is the latest last finish of a processor.
-- Not: that of the processor used last; that of the blue processors alone
abbrev pub LastSpan : Type 0
LastSpan =
    (I : Instance) → WellFormed I → (Q : Partial) → Placed I Q → Complete I Q.schedule
    → makespan I Q.schedule ≡ max_below (processor_count I) (λ p. get_or Q.last_finish p 0)

-- ---- a plain planner does not look at the limits

-- the same job on a board with the greatest limits, which hold all that any job has
unfoldable pub loosened : Instance → Instance
loosened I = record {
  blue_side = record { processors = I.blue_side.processors; limit = memory_limits.most };
  red_side = record { processors = I.red_side.processors; limit = memory_limits.most };
  tasks = I.tasks;
  files = I.files;
}

-- so it plans there what it plans on the job's own board.
-- Not: a plain planner that waits for memory, or is stuck for lack of it. Alone it is met by a planner that is always stuck; NeverStuck rules that out
abbrev pub PlainLoosened : Type 0
PlainLoosened = (R : Planner) → memory_of R ≡ plain → (I : Instance) → outcome R (loosened I) ≡ outcome R I

-- there memory is ample.
-- Not: greatest limits that are less than the files and the W of the greatest job come to
abbrev pub LoosenedAmple : Type 0
LoosenedAmple = (I : Instance) → WellFormed I → WellFormed (loosened I) × Ample (loosened I)

-- and a timetable has the span and the peaks that it has on the job's own board.
-- Not: a peak that is cut at the limit
abbrev pub LoosenedClaim : Type 0
LoosenedClaim = (I : Instance) (P : Schedule) → true_claim (loosened I) P ≡ true_claim I P
