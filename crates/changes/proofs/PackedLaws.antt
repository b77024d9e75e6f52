-- Unpacking a change.
use Prim.Native.Nat.{ℕ, ◌/◌, ◌%◌}
use mathlib.Core.Path.{◌≡◌}
use native.Mathlib.Omega.{arith}
use lib.Dec.{eqb}
use borrow.Author.Tests.{eqb-true, eqb-false}
use Rattle.rules.specs.Changes.{time_key}
use Rattle.rules.proofs.Tests.{split}
use Rattle.sorting.specs.Sorted.{unit}
use Rattle.changes.specs.Packed.{unpacked}

-- numbers in the order of their keys are changes in time order
pub key-unpacked : (p : ℕ) → time_key (unpacked p) ≡ p / unit
key-unpacked p = split (eqb (p / unit % 2) 1)
    (λ e. rw e (omega (arith, eqb-true (p / unit % 2) 1 e)))
    (λ e. rw e (omega (arith, eqb-false (p / unit % 2) 1 e)))
