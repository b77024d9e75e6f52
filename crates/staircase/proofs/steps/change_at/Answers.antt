-- `change_at` meets its contract, case by case.
use Rattle.std.proofs.Common.{◌≡◌, ◌∙◌, ◌<◌, ◌-◌, sym, ap, arith, get_or}
use Rattle.std.proofs.lemmas.Grind.{common_steps}
use Rattle.std.specs.List.{insert}
use Rattle.rules.specs.Staircase.{free_by}
use Rattle.staircase.specs.declared.Step.{Step}
use Rattle.staircase.specs.Steps.{as_steps, change_by, no_step}
use Rattle.staircase.proofs.StepLaws.{fit_lent, lent, from_first, before_is, at_equal, at_differs, new_most, new_enough, new_equal, new_differs}
use Rattle.staircase.proofs.steps.change_at.Goals as goal

pub change_all-requires : goal.change_all-requires
change_all-requires c =
    fit_lent c.requires.here c.as_mut_slice.ensures.value

pub returns-then-p-eq0 : goal.returns-then-p-eq0
returns-then-p-eq0 c =
    ap as_steps (lent c.requires.here c.as_mut_slice.ensures.value c.change_all.ensures) ∙ from_first c.requires.here c.if-p-eq0.true

pub returns-then-deref-p : goal.returns-then-deref-p
returns-then-deref-p c =
    let e = lent c.requires.here c.as_mut_slice.ensures.value c.change_all.ensures in
    let before = c.deref.ensures.0 ∙ e in
    let later : 0 < c.args.p = omega arith in
    let now = c.deref-then-stands_at.ensures.0 ∙ e in
    let q = rw (c.deref-2.ensures.0 ∙ e) at (c.stands_at.ensures.yes c.if-stands_at.true) in
    let d = rw (now, before) at c.if-deref-p.true in
    ap as_steps (grind (arith, common_steps, e)) ∙ at_equal c.requires.here later q d

pub returns-else-deref-p : goal.returns-else-deref-p
returns-else-deref-p c =
    let e = lent c.requires.here c.as_mut_slice.ensures.value c.change_all.ensures in
    let before = c.deref.ensures.0 ∙ e in
    let later : 0 < c.args.p = omega arith in
    let now = c.deref-then-stands_at.ensures.0 ∙ e in
    let q = rw (c.deref-2.ensures.0 ∙ e) at (c.stands_at.ensures.yes c.if-stands_at.true) in
    let d = rw (now, before) at c.if-deref-p.false in
    ap as_steps e ∙ at_differs c.requires.here later q d

pub free_after-free-requires-clause-most : goal.free_after-free-requires-clause-most
free_after-free-requires-clause-most c =
    let e = lent c.requires.here c.as_mut_slice.ensures.value c.change_all.ensures in
    let before = c.deref.ensures.0 ∙ e in
    let later : 0 < c.args.p = omega arith in
    let n = rw (c.deref-2.ensures.0 ∙ e) at (c.stands_at.ensures.no c.if-stands_at.false) in
    rw (before, before_is c.requires.here later) (new_most c.requires.here later n)

pub free_after-free-requires-clause-enough : goal.free_after-free-requires-clause-enough
free_after-free-requires-clause-enough c =
    let e = lent c.requires.here c.as_mut_slice.ensures.value c.change_all.ensures in
    let before = c.deref.ensures.0 ∙ e in
    let later : 0 < c.args.p = omega arith in
    let n = rw (c.deref-2.ensures.0 ∙ e) at (c.stands_at.ensures.no c.if-stands_at.false) in
    rw (before, before_is c.requires.here later) (new_enough c.requires.here later n)

pub returns-then-free-before : goal.returns-then-free-before
returns-then-free-before c =
    let e = lent c.requires.here c.as_mut_slice.ensures.value c.change_all.ensures in
    let before = c.deref.ensures.0 ∙ e in
    let later : 0 < c.args.p = omega arith in
    let n = rw (c.deref-2.ensures.0 ∙ e) at (c.stands_at.ensures.no c.if-stands_at.false) in
    let back : get_or c.deref.result.now (c.args.p - 1) no_step ≡ get_or c.args.steps.now.items (c.args.p - 1) no_step =
    ap (λ xs. get_or xs (c.args.p - 1) no_step) before ∙ before_is c.requires.here later in
    let x = change_by c.args.tick c.args.amount c.args.rises in
    let level = c.free_after-free.ensures c.args.tick ∙ ap (λ (s : Step). free_by x s.free) back in
    let v = (get_or c.args.steps.now.items (c.args.p - 1) no_step).free in
    let d : free_by x v ≡ v → ⊥ = λ y. c.if-free-before.true (level ∙ y ∙ sym (ap (λ (s : Step). s.free) back)) in
    ap as_steps (c.insert.ensures.items ∙ ap (λ xs. insert xs c.args.p (record { tick = c.args.tick; free = c.free_after-free.result })) e)
    ∙ rw level (new_differs c.requires.here later n d)

pub returns-else-free-before : goal.returns-else-free-before
returns-else-free-before c =
    let e = lent c.requires.here c.as_mut_slice.ensures.value c.change_all.ensures in
    let before = c.deref.ensures.0 ∙ e in
    let later : 0 < c.args.p = omega arith in
    let n = rw (c.deref-2.ensures.0 ∙ e) at (c.stands_at.ensures.no c.if-stands_at.false) in
    let back : get_or c.deref.result.now (c.args.p - 1) no_step ≡ get_or c.args.steps.now.items (c.args.p - 1) no_step =
    ap (λ xs. get_or xs (c.args.p - 1) no_step) before ∙ before_is c.requires.here later in
    let level = c.free_after-free.ensures c.args.tick ∙ ap (λ (s : Step). free_by (change_by c.args.tick c.args.amount c.args.rises) s.free) back in
    let d = sym level ∙ c.if-free-before.false ∙ ap (λ (s : Step). s.free) back in
    ap as_steps e ∙ new_equal c.requires.here later n d
