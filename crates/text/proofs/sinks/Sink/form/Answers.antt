use native.Mathlib.Omega.{arith}
use Rattle.text.proofs.FillLaws.{laying-start, number-room, number-laid, sign-room, sign-laid, laying-end}
use Rattle.text.proofs.sinks.Sink.form.Goals as goal
use Rattle.text.proofs.sinks.Sink.form.Goals.{then-sign-eq35, else-sign-eq35}

pub loop-sign-init : goal.loop-sign-init
loop-sign-init g c = laying-start g.met.Self.Sink.lawful c.requires

pub number-requires : goal.number-requires
number-requires g c =
    number-room g.met.Self.Sink.lawful c.requires c.loop-sign.invariant c.loop-sign-test.true c.if-sign-eq35.true c.value_at.ensures

pub byte-requires : goal.byte-requires
byte-requires g c =
    sign-room g.met.Self.Sink.lawful c.requires c.loop-sign.invariant c.loop-sign-test.true c.if-sign-eq35.false

pub loop-sign-preserved : goal.loop-sign-preserved
loop-sign-preserved g c =
    elim c.if-sign-eq35.branch [
      | then-sign-eq35 w ↦
          rw (w.self-is, w.k-is)
          (number-laid g.met.Self.Sink.lawful c.requires c.loop-sign.invariant c.loop-sign-test.true w.if-sign-eq35.true w.value_at.ensures w.number.ensures)
      | else-sign-eq35 w ↦
          rw (w.self-is, w.k-is)
          (sign-laid g.met.Self.Sink.lawful c.requires c.loop-sign.invariant c.loop-sign-test.true w.if-sign-eq35.false w.byte.ensures)
    ]

pub returns : goal.returns
returns g c = laying-end g.met.Self.Sink.lawful c.requires c.loop-sign.invariant (omega arith)
