use mathlib.Core.Bool.{not}
use mathlib.Core.Path.{ap}
use Rattle.model.specs.Layout.{entries_of}
use Rattle.links.proofs.WalkLaws.{begins, turn, ended}
use Rattle.needs.proofs.ReadinessLaws.{missing-first, missing_at, missing-skip, ready-placed, ready-missing, ready-found}
use Rattle.needs.proofs.readiness.ready.Goals as goal

pub returns-then-is_placed : goal.returns-then-is_placed
returns-then-is_placed c =
    ready-placed c.args.links.now.job (entries_of c.args.schedule.now) c.args.task c.requires.task_lt_tasks c.is_placed.ensures c.if-is_placed.true

pub loop-k-init : goal.loop-k-init
loop-k-init c =
    let b = begins c.files-k-items.ensures c.into_iter-k-iterator.ensures.into_iter_gives in
    record { of = b.of; none = missing-first c.args.links.now.job _ _ b.first }

pub maker-requires : goal.maker-requires
maker-requires c = (turn c.loop-k.invariant.of c.next.ensures.steps c.in-Some.is).exists

pub returns-then-not-is_placed : goal.returns-then-not-is_placed
returns-then-not-is_placed c =
    let j = c.args.links.now.job in
    let L = entries_of c.args.schedule.now in
    let t = turn c.loop-k.invariant.of c.next.ensures.steps c.in-Some.is in
    ready-missing j L c.args.task c.requires.task_lt_tasks c.is_placed.ensures t.exists
    (missing_at j L c.args.task t.exists t.holds c.maker.ensures.value c.is_placed-in-loop-k.ensures) (ap not c.if-not-is_placed.true)

pub loop-k-preserved : goal.loop-k-preserved
loop-k-preserved c =
    let t = turn c.loop-k.invariant.of c.next.ensures.steps c.in-Some.is in record {
      of = t.of;
      none = missing-skip c.args.links.now.job (entries_of c.args.schedule.now) c.args.task t.exists t.holds c.maker.ensures.value c.is_placed-in-loop-k.ensures t.next
          (rw t.came at c.loop-k.invariant.none) (ap not c.if-not-is_placed.false);
    }

pub returns : goal.returns
returns c =
    ready-found c.args.links.now.job (entries_of c.args.schedule.now) c.args.task c.requires.task_lt_tasks c.is_placed.ensures
    c.if-is_placed.false (ended c.loop-k.invariant.of c.next.ensures.steps c.in-None.is) c.loop-k.invariant.none
