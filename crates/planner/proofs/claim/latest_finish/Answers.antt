-- `latest_finish` meets its contract: the greatest of the range is that of the rules' list.
use Prim.Native.Nat.{ℕ, ◌+◌}
use mathlib.Core.Path.{refl, ◌∙◌}
use borrow.Author.Tests.{tests}
use lib.ListN.{get_or}
use Rattle.std.proofs.Common.{arith, rules}
use Rattle.std.proofs.lemmas.Iterator.{YieldsList-from_range, YieldsList-from_map}
use Rattle.std.proofs.lemmas.Iterator.Consumers.{max_from_yields_List}
use Rattle.model.proofs.RangeLaws.{max-range}
use Rattle.planner.proofs.ClaimLaws.{latest-last}
use Rattle.planner.proofs.claim.latest_finish.Goals as goal

pub returns : goal.returns
returns c =
    let b = c.args.board in
    let last = c.args.finishes.now in
    let n : ℕ = b.blue.processors + b.red.processors in
    let f : ℕ → ℕ = λ p. get_or last p 0 in
    let found = max_from_yields_List c.map.result c.max.result c.max.ensures.ran
    (YieldsList-from_map _ f (YieldsList-from_range 0 n n (cc) (omega arith)) c.map.ensures.closure (λ x b q k. search (rules, tests))) in
    λ I P on. c.unwrap_or.ensures ∙ max-range f n c.max.result found ∙ latest-last on P last refl
