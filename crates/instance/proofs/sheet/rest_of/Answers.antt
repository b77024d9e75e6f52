use Prim.Native.Nat.{ℕ, ◌≤◌, ◌<◌}
use mathlib.Core.Bool.{Bool, true, false}
use mathlib.Core.Path.{sym, ◌∙◌}
use lib.Dec.{eqb}
use lib.ListN.{length}
use borrow.Author.Tests.{eqb-true, eqb-false}
use native.Mathlib.Omega.{arith}
use Rattle.std.proofs.Common.{rules, of_calls, ◌≡◌}
use Rattle.rules.specs.declared.refusal.Refusal.TheVariants.{Sheet}
use Rattle.rules.specs.InstanceText.{instance_line, with_line}
use Rattle.model.specs.Layout.{instance_with}
use Rattle.text.specs.Due.{Took}
use Rattle.text.proofs.DueLaws.{is-err, due-taken, due-refused}
use Rattle.instance.proofs.ReadLaws.{reading-refused, reading-next, reading-absent, reading-done}
use Rattle.instance.proofs.sheet.rest_of.Goals as goal

some-left : (n : ℕ) (r : Bool) → r ≡ eqb n 0 → r ≡ false → 0 < n
some-left n r e f = let h : n ≡ 0 → ⊥ = eqb-false n 0 (sym e ∙ f) in omega arith

none-left : (n : ℕ) (r : Bool) → r ≡ eqb n 0 → r ≡ true → n ≤ 0
none-left n r e f = omega (arith, eqb-true n 0 (sym e ∙ f))

pub returns-in_err-step : goal.returns-in_err-step
returns-in_err-step c =
    let (w, k, d) = due-refused instance_line (with_line (instance_with c.args.board c.loop-rest.numbers)) (λ u. instance_with c.args.board c.go_on.new.numbers)
    c.loop-rest.rest.now c.go_on.result (c.go_on.ensures c.args.board) _ c.map_err.ensures.cases c.in_err-step.was in
    let q : c.in_err-step.field-0.0 ≡ Sheet w c.loop-rest.line = search (rules, of_calls) in
    rw (is-err _ c.from_residual.ensures.1, q) (reading-refused c.loop-rest.invariant (some-left _ _ c.is_empty.ensures c.loop-rest-test.true) _ d)

module _ (c : goal.After-rest-1) where
  abbrev took : Took instance_line (with_line (instance_with c.args.board c.loop-rest.numbers)) c.loop-rest.rest.now c.in_ok-step.step.rest.now
      (instance_with c.args.board c.go_on.new.numbers)
  took =
      due-taken instance_line (with_line (instance_with c.args.board c.loop-rest.numbers)) (λ u. instance_with c.args.board c.go_on.new.numbers)
      c.loop-rest.rest.now c.go_on.result (c.go_on.ensures c.args.board) _ c.map_err.ensures.cases c.in_ok-step.was

pub loop-rest-smaller : goal.loop-rest-smaller
loop-rest-smaller c = (took c).shorter

pub loop-rest-preserved : goal.loop-rest-preserved
loop-rest-preserved c = reading-next c.loop-rest.invariant _ (took c)

pub returns-then-is_empty : goal.returns-then-is_empty
returns-then-is_empty c =
    reading-absent c.loop-rest.invariant (none-left _ _ c.is_empty.ensures c.loop-rest-test.false)
    (eqb-true (length c.loop-rest.numbers.tasks.items) 0 (sym c.is_empty-2.ensures ∙ c.if-is_empty.true))

pub returns : goal.returns
returns c =
    reading-done c.loop-rest.invariant (none-left _ _ c.is_empty.ensures c.loop-rest-test.false)
    (eqb-false (length c.loop-rest.numbers.tasks.items) 0 (sym c.is_empty-2.ensures ∙ c.if-is_empty.false))
