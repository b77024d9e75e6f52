-- `chosen_processor` meets its contract: what is found is the first of those with the latest last finish.
use Prim.Native.Nat.{ℕ}
use mathlib.Core.Bool.{true, false, ◌&&◌}
use mathlib.Core.Path.{◌≡◌}
use lib.Dec.{eqb}
use borrow.Author.Tests.{tests}
use Rattle.std.proofs.Common.{rules}
use Rattle.std.proofs.lemmas.Iterator.{first_from_Range}
use Rattle.placement.specs.Slots.{last_in}
use Rattle.placement.proofs.SlotLaws.{free_in, chosen-found}
use Rattle.placement.proofs.processor.chosen_processor.Goals as goal

pub returns-clause-value : goal.returns-clause-value
returns-clause-value c =
    let b = c.args.board in
    let xs = c.args.finishes.now in
    let x = c.args.colour in
    let s = c.args.start in
    let latest = c.latest_in-latest.result in
    λ I P on. chosen-found b xs x s on P c.find.result c.count_in.ensures c.latest_in-latest.ensures
    (first_from_Range _ _ _ c.find.result (λ (p : ℕ). (free_in b xs x s p && eqb (last_in b xs x p) latest) ≡ true)
    (λ (p : ℕ). (free_in b xs x s p && eqb (last_in b xs x p) latest) ≡ false) c.find.ensures.ran
    (λ p q k. search (rules, tests)) (λ p q k. search (rules, tests)))
