-- `instance::build::ascending` meets its contract: by the last file, if there is one.
use mathlib.Core.Path.{ap}
use native.Mathlib.Omega.{arith}
use Rattle.std.proofs.lemmas.Grind.{common_steps}
use Rattle.instance.proofs.BuildLaws.{last-none, last-some, ascends_none, ascends-by}
use Rattle.instance.proofs.build.ascending.Goals as goal

pub returns-in-None : goal.returns-in-None
returns-in-None c =
    let a = c.args in λ b. ascends_none b a.numbers.now a.i a.j (last-none a.numbers.now.files.items (rw c.as_slice.ensures.value at c.in-None.ensures.value))

pub returns-in-Some : goal.returns-in-Some
returns-in-Some c =
    let a = c.args in
    let last = last-some a.numbers.now.files.items c.in-Some.last.now (record { maker = 0; reader = 0; size = 0; move_time = 0 })
    (rw c.as_slice.ensures.value at c.in-Some.ensures.value) in
    λ b.
    rw (ascends-by b a.numbers.now a.i a.j last.0 c.in-Some.last.now.maker c.in-Some.last.now.reader (ap (λ f. f.maker) last.1) (ap (λ f. f.reader) last.1))
    (grind (arith, common_steps))
