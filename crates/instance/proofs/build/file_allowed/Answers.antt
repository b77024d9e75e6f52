-- `instance::build::file_allowed` meets its contract: each return by the tests that led there.
use mathlib.Core.Path.{refl, sym, ◌∙◌}
use native.Mathlib.Omega.{arith}
use lib.ListN.{length}
use borrow.Author.Tests.{eqb-true, eqb-false, lt-ltb, le-ltb, le-leb, lt-leb}
use Rattle.rules.specs.Limits.{max_files}
use Rattle.rules.proofs.Tests.{and_no, and_yes}
use Rattle.instance.proofs.BuildLaws.{allowed-by}
use Rattle.instance.proofs.build.file_allowed.Goals as goal
use Rattle.instance.proofs.build.file_allowed.Goals.{then-j-i-via-then-j-i, then-j-i-via-else-j-i+then-len-j, then-j-i-via-else-j-i+else-len-j+then-is_full}

pub returns-then-j-i : goal.returns-then-j-i
returns-then-j-i c =
    let a = c.args in
    λ b. let e = allowed-by b a.numbers.now a.i a.j _ refl in
    elim c.then-j-i.branch [
      | then-j-i-via-then-j-i w ↦ sym (e ∙ simp (le-ltb _ _ w.if-j-i.true))
      | then-j-i-via-else-j-i+then-len-j w ↦ sym (e ∙ simp (lt-ltb _ _ w.if-j-i.false, lt-leb a.j (length a.numbers.now.tasks.items) (omega (arith, w.if-len-j.true, w.len.ensures.value))))
      | then-j-i-via-else-j-i+else-len-j+then-is_full w ↦ sym (e ∙ rw (le-ltb (length a.numbers.now.files.items) max_files (omega (arith, eqb-true (length a.numbers.now.files.items) max_files (sym w.is_full.ensures.value ∙ w.if-is_full.true))), and_no))
    ]

pub returns : goal.returns
returns c =
    let a = c.args in
    λ b. sym (allowed-by b a.numbers.now a.i a.j _ (c.ascending.ensures b) ∙ rw (
      lt-ltb _ _ c.if-j-i.false,
      le-leb a.j (length a.numbers.now.tasks.items) (omega (arith, c.if-len-j.false)),
      lt-ltb (length a.numbers.now.files.items) max_files (omega (arith, eqb-false (length a.numbers.now.files.items) max_files (sym c.is_full.ensures.value ∙ c.if-is_full.false))),
      and_yes,
    ))
