-- `processor_start` meets its contract: the least of the range is that of the rules' list.
use Prim.Native.Nat.{ℕ, ◌+◌, ◌<◌}
use mathlib.Core.Path.{refl, ◌∙◌}
use borrow.Author.Tests.{tests}
use lib.ListN.{get_or}
use Rattle.std.proofs.Common.{arith, rules}
use Rattle.std.proofs.lemmas.Iterator.{YieldsList-from_range, YieldsList-from_map}
use Rattle.std.proofs.lemmas.Iterator.Consumers.{min_from_yields_List}
use Rattle.model.proofs.RangeLaws.{min-range}
use Rattle.starts.proofs.EarliestStartLaws.{least-total, least-bound}
use Rattle.starts.proofs.start.processor_start.Goals as goal

pub returns : goal.returns
returns c =
    let a = c.args in
    let f = c.requires.processors in
    let last = a.finishes.now in
    let first = c.by_colour.ensures.value in
    let count = c.by_colour-count.ensures.value in
    let n = c.by_colour-count.result in
    let some : 0 < n = omega (arith, f.blue.least, f.red.least, c.by_colour-count.ensures.lower_bound) in
    let finish : ℕ → ℕ = λ p. get_or last (c.by_colour.result + p) 0 in
    let found = min_from_yields_List c.map.result c.min.result c.min.ensures.ran
    (YieldsList-from_map _ finish (YieldsList-from_range 0 n n (cc) (omega arith)) c.map.ensures.closure (λ x b q k. search (rules, tests))) in
    let least = c.unwrap_or.ensures ∙ min-range finish n some c.min.result found in record {
      value = λ I P on. least ∙ least-total f last on P a.colour first count refl;
      upper_bound = omega (arith, least, least-bound f last c.requires.last_bounds a.colour first count);
    }
