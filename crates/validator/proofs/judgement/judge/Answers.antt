-- `judge` meets its contract: 15 to 18 in this order, each by its step.
use Rattle.model.specs.Claims.{as_claim}
use Rattle.validator.proofs.JudgeSteps.{judge-15, judge-16, judge-17, judge-18, judge-0}
use Rattle.validator.proofs.MemoryLaws.{over-at, over-never}
use Rattle.validator.proofs.judgement.judge.Goals as goal

pub returns-in-Some : goal.returns-in-Some
returns-in-Some c =
    let r = c.requires in judge-15 c.args.t.now r.well_formed r.placed (as_claim c.args.claim) c.in-Some.ensures.lowest c.in-Some.ensures.in_range

pub returns-in-Some-first_early : goal.returns-in-Some-first_early
returns-in-Some-first_early c =
    let r = c.requires in
    let found = c.in-Some-first_early.ensures in
    judge-16 c.args.t.now r.well_formed r.placed (as_claim c.args.claim) c.in_default.ensures.lowest found.lowest found.in_range

pub returns-in-Some-over : goal.returns-in-Some-over
returns-in-Some-over c =
    let r = c.requires in
    judge-17 c.args.t.now r.well_formed r.placed (as_claim c.args.claim) c.in_default.ensures.lowest c.in_default-first_early.ensures.lowest
    c.walk_memories-found.ensures (over-at c.in-Some-over.is)

pub returns-then-eq : goal.returns-then-eq
returns-then-eq c =
    let r = c.requires in
    judge-0 c.args.t.now r.well_formed r.placed (as_claim c.args.claim) c.in_default.ensures.lowest c.in_default-first_early.ensures.lowest
    c.walk_memories-found.ensures (over-never c.in_default-over.is) c.makespan.ensures.value c.eq.ensures c.if-eq.true

pub returns-else-eq : goal.returns-else-eq
returns-else-eq c =
    let r = c.requires in
    judge-18 c.args.t.now r.well_formed r.placed (as_claim c.args.claim) c.in_default.ensures.lowest c.in_default-first_early.ensures.lowest
    c.walk_memories-found.ensures (over-never c.in_default-over.is) c.makespan.ensures.value c.eq.ensures c.if-eq.false
