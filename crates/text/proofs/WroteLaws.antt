-- Writing a text in pieces: `Wrote a at old out` holds of no bytes at the start (`wrote_none`), and is carried on by a writer that is lent
-- `&mut out[at..]` (`wrote-part`).
use Prim.Native.Nat.{ℕ, ◌+◌, ◌-◌, ◌≤◌}
use mathlib.Core.Path.{◌≡◌, refl, sym, ap, ◌∙◌}
use mathlib.Core.List.{List, [], ◌++◌, append_assoc, append-nil}
use native.Mathlib.Omega.{arith}
use lib.ListN.{length, take, drop, length-append, length-drop, drop_of_length-le}
use lib.Seq.{take_at, drop_at, drop-drop}
use Rattle.text.specs.Wrote.{Wrote}
use Rattle.std.proofs.lemmas.List.{take_rest}

pub wrote_none : (old : List ℕ) → Wrote [] 0 old old
wrote_none old = record { count = refl; bytes = refl }

module _ {a old out : List ℕ} {at : ℕ} (o : Wrote a at old out) where
  take_out : take at out ≡ a
  take_out = rw o.bytes (take_at a (drop (length a) old) at (sym o.count))

  drop-out : drop at out ≡ drop at old
  drop-out = rw o.bytes (drop_at a (drop (length a) old) at (sym o.count) ∙ rw o.count)

  pub wrote-length : length a ≤ length old → length out ≡ length old
  wrote-length h = ap length o.bytes ∙ length-append a (drop (length a) old) ∙ rw length-drop (omega arith)

  -- the next piece is w
  module _ (w : List ℕ) (h : length (a ++ w) ≤ length old) where
    room : length a + length w ≤ length old
    room = rw length-append at h

    none_left : drop (length out - at) (drop at old) ≡ []
    none_left = drop_of_length-le (drop at old) {i = length out - at} (rw length-drop (omega (arith, wrote-length (omega (arith, room)))))

    -- a writer of it was lent that part, which is back
    pub wrote-part : (r : ℕ) (new : List ℕ) → Wrote w r (take (length out - at) (drop at out)) new
        → Wrote (a ++ w) (at + r) old (take at out ++ (new ++ drop (length out - at) (drop at out)))
    wrote-part r new p =
        record {
          count = rw length-append (omega (arith, o.count, p.count));
          bytes =
              rw (take_out, p.bytes, take_rest out at, drop-out, none_left, append-nil, drop-drop (length w) at old, append_assoc, length-append, o.count);
        }
