use native.Mathlib.Omega.{arith}
use Rattle.text.proofs.WriteNumeralLaws.{length-small, length_more}
use Rattle.text.proofs.numerals.number_size.Goals as goal

pub loop-v-preserved : goal.loop-v-preserved
loop-v-preserved c = (omega arith, omega (arith, length_more c.loop-v.v c.loop-v-test.true))

pub returns : goal.returns
returns c = omega (arith, length-small c.loop-v.v c.loop-v-test.false)
