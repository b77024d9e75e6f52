use mathlib.Core.Path.{sym, ◌∙◌}
use native.Mathlib.Omega.{arith}
use Rattle.text.proofs.ReadNumeralLaws.{summing-below, summing-stop, summing-long, summing-more, summing-end}
use Rattle.text.proofs.numerals.number.Goals as goal

pub spelled-requires : goal.spelled-requires
spelled-requires c =
    summing-stop c.loop-n.invariant c.loop-n-test.true
    (sym c.is_ascii_digit.ensures.value ∙ c.if-not-is_ascii_digit.true)

pub returns-then-n-eq-MAX_DIGITS : goal.returns-then-n-eq-MAX_DIGITS
returns-then-n-eq-MAX_DIGITS c =
    summing-long c.loop-n.invariant c.loop-n-test.true
    (sym c.is_ascii_digit.ensures.value ∙ c.if-not-is_ascii_digit.false) c.if-n-eq-MAX_DIGITS.true

pub overflow_mul-value : goal.overflow_mul-value
overflow_mul-value c = omega (arith, summing-below c.loop-n.invariant)

pub overflow_add-value : goal.overflow_add-value
overflow_add-value c =
    omega (arith, summing-below c.loop-n.invariant, c.type_inv.text c.loop-n.n)

pub loop-n-preserved : goal.loop-n-preserved
loop-n-preserved c =
    summing-more c.loop-n.invariant c.loop-n-test.true (sym c.is_ascii_digit.ensures.value ∙ c.if-not-is_ascii_digit.false)
    c.if-n-eq-MAX_DIGITS.false _ c.from.ensures (omega (arith, c.type_inv.text c.loop-n.n))

pub spelled-requires-2 : goal.spelled-requires-2
spelled-requires-2 c = summing-end c.loop-n.invariant (omega arith) _ (omega arith)
