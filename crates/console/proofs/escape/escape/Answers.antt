-- Each byte is written into the part from `at` on.
use Rattle.console.proofs.EscapedLaws.{escaping-start, byte_fits, escaping-more, escaping-shown}
use Rattle.console.proofs.escape.escape.Goals as goal

pub loop-b-init : goal.loop-b-init
loop-b-init c = escaping-start _ _ c.requires

pub escape_byte-at-requires : goal.escape_byte-at-requires
escape_byte-at-requires c = byte_fits c.loop-b.invariant c.loop-b-test.true

pub loop-b-preserved : goal.loop-b-preserved
loop-b-preserved c = escaping-more c.loop-b.invariant c.loop-b-test.true _ _ c.escape_byte-at.ensures

pub returns-clause-by_index : goal.returns-clause-by_index
returns-clause-by_index c = escaping-shown c.loop-b.invariant c.loop-b-test.false
