-- `text::sinks::Sink::form` meets its contract: the form is laid down up to the sign that is next.
use Rattle.text.proofs.FillLaws.{Laying}
use Rattle.text.proofs.sinks.Sink.form.Given as goal

abbrev pub invariant-loop-sign : goal.invariant-loop-sign
invariant-loop-sign g l = Laying g.Self.Sink.laid l.form l.values l.initial.self l.self l.sign-index l.k
