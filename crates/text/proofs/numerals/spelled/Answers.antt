-- `text::numerals::spelled` meets its contract: each return by the tests that led there.
use native.Mathlib.Omega.{arith}
use Rattle.text.proofs.ReadNumeralLaws.{read_at, no-digit, one-digit, zero-leads, many-digits}
use Rattle.text.proofs.numerals.spelled.Goals as goal
use Rattle.text.proofs.numerals.spelled.Goals.{else-size-gt1-via-then-size-gt1+else-text-eq48, else-size-gt1-via-else-size-gt1}

pub returns-then-size-eq0 : goal.returns-then-size-eq0
returns-then-size-eq0 c = no-digit c.requires c.if-size-eq0.true

pub bounds-text-0 : goal.bounds-text-0
bounds-text-0 c = read_at c.requires (omega arith)

pub returns-then-text-eq48 : goal.returns-then-text-eq48
returns-then-text-eq48 c = zero-leads c.requires c.if-size-gt1.true c.if-text-eq48.true

pub returns : goal.returns
returns c =
    elim c.else-size-gt1.branch [
      | else-size-gt1-via-then-size-gt1+else-text-eq48 w ↦ many-digits c.requires w.if-size-gt1.true w.if-text-eq48.false
      | else-size-gt1-via-else-size-gt1 w ↦ one-digit c.requires (omega arith)
    ]
