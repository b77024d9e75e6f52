-- `least` meets its contract: the least of the chain is that of the rules' list.
use mathlib.Core.Path.{◌∙◌}
use borrow.Author.Tests.{tests}
use Rattle.std.proofs.Common.{rules}
use Rattle.std.proofs.lemmas.Iterator.{YieldsList-from_slice, YieldsList-from_map}
use Rattle.std.proofs.lemmas.Iterator.Consumers.{min_from_yields_List}
use Rattle.staircase.specs.declared.Step.{Step}
use Rattle.staircase.proofs.ReadLaws.{least-found}
use Rattle.staircase.proofs.least.Goals as goal

pub returns : goal.returns
returns c =
    let xs = c.args.steps.now in
    let found = min_from_yields_List c.map.result c.min.result c.min.ensures.ran
    (YieldsList-from_map _ (λ (s : Step). s.free) (YieldsList-from_slice xs (cc)) c.map.ensures.closure (λ x b q k. search (rules, tests))) in
    c.unwrap_or.ensures ∙ least-found xs c.min.result found
