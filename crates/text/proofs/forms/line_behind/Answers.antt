use mathlib.Core.Path.{sym, ◌∙◌}
use Rattle.text.proofs.LineByLaws.{scanning-start, scanning-no-number, scanning-number, scanning-fifth, scanning-no-sign}
use Rattle.text.proofs.LineByLaws.{scanning-sign, scanning-long, scanning-end}
use Rattle.text.proofs.forms.line_behind.Goals as goal
use Rattle.text.proofs.forms.line_behind.Goals.{then-sign-eq35+in_ok-read, then-count-lt4, else-count-lt4, else-sign-eq35+else-not-stands}

pub loop-sign-init : goal.loop-sign-init
loop-sign-init c = scanning-start _ _ _ c.requires.form_lineless c.requires.start_passed

pub returns-in_err-read : goal.returns-in_err-read
returns-in_err-read c =
    rw c.from_residual.ensures (scanning-no-number c.loop-sign.invariant c.loop-sign-test.true c.if-sign-eq35.true c.in_err-read.ensures)

pub returns-then-not-stands : goal.returns-then-not-stands
returns-then-not-stands c =
    scanning-no-sign c.loop-sign.invariant c.loop-sign-test.true c.if-sign-eq35.false
    (sym c.stands.ensures ∙ c.if-not-stands.true)

pub loop-sign-preserved : goal.loop-sign-preserved
loop-sign-preserved c =
    elim c.if-sign-eq35.branch [
      | then-sign-eq35+in_ok-read w ↦
          elim w.if-count-lt4.branch [
            | then-count-lt4 v ↦
                rw (w.numbers-is, v.numbers-is, w.at-is, w.count-is)
                (scanning-number c.loop-sign.invariant c.loop-sign-test.true w.if-sign-eq35.true w.in_ok-read.ensures)
            | else-count-lt4 v ↦
                rw (w.numbers-is, v.numbers-is, w.at-is, w.count-is)
                (scanning-fifth c.loop-sign.invariant c.loop-sign-test.true w.if-sign-eq35.true w.in_ok-read.ensures v.if-count-lt4.false)
          ]
      | else-sign-eq35+else-not-stands w ↦
          rw (w.numbers-is, w.at-is, w.count-is)
          (scanning-sign c.loop-sign.invariant c.loop-sign-test.true w.if-sign-eq35.false (sym w.stands.ensures ∙ w.if-not-stands.false))
    ]

pub returns-then-not-stands-2 : goal.returns-then-not-stands-2
returns-then-not-stands-2 c =
    scanning-long c.loop-sign.invariant c.loop-sign-test.false (sym c.stands-2.ensures ∙ c.if-not-stands-2.true)

pub returns : goal.returns
returns c =
    scanning-end c.loop-sign.invariant c.loop-sign-test.false (sym c.stands-2.ensures ∙ c.if-not-stands-2.false)
