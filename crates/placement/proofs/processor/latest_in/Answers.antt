-- `latest_in` meets its contract: the greatest of those in the range that pass is that of the rules' list.
use Prim.Native.Nat.{ℕ}
use mathlib.Core.Path.{◌∙◌}
use borrow.Author.Tests.{tests}
use lib.Dec.{leb}
use Rattle.std.proofs.Common.{arith, rules}
use Rattle.std.proofs.lemmas.Iterator.{YieldsList-from_range, YieldsList-from_map}
use Rattle.std.proofs.lemmas.Iterator.Consumers.{YieldsList-at, YieldsList-from_filter, max_from_yields_List}
use Rattle.model.proofs.RangeLaws.{max-range-where}
use Rattle.model.specs.Layout.{count_in}
use Rattle.placement.specs.Slots.{last_in}
use Rattle.placement.proofs.processor.latest_in.Goals as goal

pub returns : goal.returns
returns c =
    let b = c.args.board in
    let n : ℕ = count_in b c.args.colour in
    let f : ℕ → ℕ = λ p. last_in b c.args.finishes.now c.args.colour p in
    let found = max_from_yields_List c.filter.result c.max.result c.max.ensures.ran
    (YieldsList-from_filter _ (λ x. leb x c.args.start)
    (YieldsList-at c.filter.ensures.source
    (YieldsList-from_map _ f (YieldsList-from_range 0 n n (cc) (omega arith)) c.map.ensures.closure (λ x b q k. search (rules, tests))))
    c.filter.ensures.closure (λ x b q k. search (rules, tests))) in
    c.unwrap_or.ensures ∙ max-range-where f (λ x. leb x c.args.start) n c.max.result found
