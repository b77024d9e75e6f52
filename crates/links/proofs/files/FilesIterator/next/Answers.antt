use mathlib.Core.Path.{refl, sym}
use Rattle.std.proofs.lemmas.Option.{same_Some}
use Rattle.links.proofs.WalkLaws.{next-at}
use Rattle.links.proofs.files.FilesIterator.next.Goals as goal

pub invariant_of-self : goal.invariant_of-self
invariant_of-self c =
    let s = c.args.self.now in
    record { reached = next-at (c.next-self.ensures s.task (s.reached.holds c.in_ok-k.k c.in_ok-k.was)) }

pub returns-clause-steps : goal.returns-clause-steps
returns-clause-steps c =
    let s = c.args.self.now in
    record {
      of = record { same_job = refl; same_end = refl; same_task = refl };
      item = sym c.in_ok-k.was;
      next = λ k e. rw (same_Some c.in_ok-k.k k e) at (c.next-self.ensures s.task (s.reached.holds c.in_ok-k.k c.in_ok-k.was));
    }
