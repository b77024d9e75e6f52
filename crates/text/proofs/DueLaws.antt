-- A due line: what is taken from the line that was read, and a fault that is handed on with the number of its line.
use Prim.Native.Nat.{ℕ}
use mathlib.Core.Path.{◌≡◌, sym, ap, ◌∙◌}
use mathlib.Core.List.{List}
use mathlib.Core.Option.{Option, some}
use Rattle.std.specs.Prelude.{Result, Ok, Err}
use Rattle.std.specs.Result.{MatchResult, IsErrAnd}
use Rattle.std.proofs.lemmas.Result.{err_from_is_err_and}
use Rattle.rules.specs.Text.{Fault, Line, lines_of, Reading, wrong, right, due}
use Rattle.rules.specs.Refusals.{as_fault}
use Rattle.rules.specs.declared.refusal.Fault.{Fault as CodeFault}
use Rattle.text.specs.declared.lines.Taken.{Taken}
use Rattle.text.specs.Due.{first_says, Took, TakesDue}

pub said_as : {A : Type 0} (r : Reading A) (a : A) → due some r ≡ right a → r ≡ right a
said_as (wrong w) a e = cc
said_as (right b) a e = e

-- a line that was not read is not due
pub unread-as : {A : Type 0} (r : Reading A) (w : Fault) → due some r ≡ wrong w → r ≡ wrong w
unread-as (wrong v) w e = let z : v ≡ w = cc in ap wrong z
unread-as (right a) w e = cc

-- ---- the error that a `?` hands on
pub is-err : {T E : Type 0} (r : Result T E) {e : E} → IsErrAnd r (λ x. x ≡ e) → r ≡ Err e
is-err r h = let p = err_from_is_err_and r h in p.1 ∙ ap Err p.2

-- ---- what the taker of a due line ensures, where its fault is mapped to the error of a result r
module _ {A B C D : Type 0} (says : Line → Reading A) (f : A → Option B) (as_b : C → B) (text : List ℕ) (s : Result (Taken C) CodeFault)
    (h : TakesDue says f as_b text s) (P : CodeFault → D → Type 0) {r : Result (Taken C) D} (m : MatchResult s (λ x. r ≡ Ok x) (λ e. IsErrAnd r (P e))) where
  pub due-taken : {t : Taken C} → r ≡ Ok t → Took says f text t.rest.now (as_b t.value)
  due-taken {t} e = go s h m
    where
      go : (x : Result (Taken C) CodeFault) → TakesDue says f as_b text x → MatchResult x (λ y. r ≡ Ok y) (λ w. IsErrAnd r (P w))
          → Took says f text t.rest.now (as_b t.value)
      go (Ok y) k n = let q : y ≡ t = cc in rw q at k
      go (Err w) k n = absurd (rw e at n)

  pub due-refused : {d : D} → r ≡ Err d → (w : CodeFault) × P w d × (due f (first_says says (lines_of text)) ≡ wrong (as_fault w))
  due-refused {d} e = go s h m
    where
      go : (x : Result (Taken C) CodeFault) → TakesDue says f as_b text x → MatchResult x (λ y. r ≡ Ok y) (λ w. IsErrAnd r (P w))
          → (w : CodeFault) × P w d × (due f (first_says says (lines_of text)) ≡ wrong (as_fault w))
      go (Ok y) k n = let q : Ok y ≡ Err d = sym n ∙ e in cc
      go (Err w) k n = (w, rw e at n, k)
