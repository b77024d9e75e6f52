-- What a sink of lines promises, and what it holds.
use Rattle.std.specs.Prelude.{ℕ, ◌+◌, ◌-◌, ◌^◌, min, ◌<◌, ◌≤◌, ◌≡◌, List, [], ◌++◌, length, take, drop}
use Rattle.std.proofs.Common.{arith, sym, ap, ◌∙◌, append_assoc, add-zero, take-append-drop}
use Rattle.std.proofs.Math.ListN.{length-append, length-drop}
use Rattle.std.proofs.Math.Seq.{take_at, drop_at, drop-drop, length-take-le}

-- what a sink promises: nothing can be laid down, a text behind another is both as one, and room for both is room for the first, and behind it
-- for the second
pub record Lawful {T : Type 0} (room : T → List ℕ → Type 0) (laid : T → List ℕ → T → Type 0) : Type 0 where
  pub none : (s : T) → room s [] → laid s [] s
  pub more : (s t u : T) (a b : List ℕ) → laid s a t → laid t b u → laid s (a ++ b) u
  pub front : (s : T) (a b : List ℕ) → room s (a ++ b) → room s a
  pub left : (s t : T) (a b : List ℕ) → room s (a ++ b) → laid s a t → room t b

-- the text a lies between at and end, the bytes before and behind it are the old ones
pub record LaidBetween (at : ℕ) (old a : List ℕ) (end : ℕ) (new : List ℕ) : Type 0 where
  pub moved : end ≡ at + length a
  pub within : at + length a ≤ length old
  pub bytes : new ≡ take at old ++ (a ++ drop (at + length a) old)

-- n bytes, and the text a: no count is greater than the greatest `usize`
abbrev pub counted : ℕ → List ℕ → ℕ
counted n a = min (n + length a) (2 ^ 64 - 1)

pub counted_none : (n : ℕ) → n < 2 ^ 64 → n ≡ counted n []
counted_none n h = omega arith

pub counted_more : (n m k : ℕ) (a b : List ℕ) → m ≡ counted n a → k ≡ counted m b → k ≡ counted n (a ++ b)
counted_more n m k a b p q = omega (arith, length-append a b)

pub counted_left : (n m : ℕ) (a : List ℕ) → m ≡ counted n a → m < 2 ^ 64
counted_left n m a p = omega arith

parts : (at : ℕ) (l : List ℕ) → l ≡ take at l ++ drop (at + 0) l
parts at l = sym (rw (add-zero at) (take-append-drop at l))

pub page_none : (at : ℕ) (old : List ℕ) → at + length {A = ℕ} [] ≤ length old → LaidBetween at old [] at old
page_none at old h = record { moved = omega arith; within = h; bytes = parts at old }

module _ {at end : ℕ} {old a new : List ℕ} (p : LaidBetween at old a end new) where
  pub page_length : length new ≡ length old
  page_length =
      ap length p.bytes
      ∙ simp (length-append, length-drop) (omega (arith, length-take-le at old (omega (arith, p.within)), p.within))

  front : length (take at old ++ a) ≡ end
  front = length-append (take at old) a ∙ omega (arith, length-take-le at old (omega (arith, p.within)), p.moved)

  split : new ≡ (take at old ++ a) ++ drop (at + length a) old
  split = p.bytes ∙ sym (append_assoc (take at old) a (drop (at + length a) old))

  pub page_left : (b : List ℕ) → at + length (a ++ b) ≤ length old → end + length b ≤ length new
  page_left b h = omega (arith, length-append a b, page_length, p.moved)

  pub page_more : {b : List ℕ} {last : ℕ} {after : List ℕ} → LaidBetween end new b last after → LaidBetween at old (a ++ b) last after
  page_more {b} {last} {after} q =
      let left : take end new ≡ take at old ++ a = ap (take end) split ∙ take_at (take at old ++ a) (drop (at + length a) old) end front in
      let behind : drop end new ≡ drop (at + length a) old = ap (drop end) split ∙ drop_at (take at old ++ a) (drop (at + length a) old) end front in
      let n : (at + length a) + length b ≡ at + length (a ++ b) = omega (arith, length-append a b) in
      let right : drop (end + length b) new ≡ drop (at + length (a ++ b)) old =
      sym (drop-drop (length b) end new) ∙ ap (drop (length b)) behind ∙ drop-drop (length b) (at + length a) old ∙ rw n in
      record {
        moved = omega (arith, length-append a b, p.moved, q.moved);
        within = omega (arith, length-append a b, q.within, page_length, p.moved);
        bytes = q.bytes ∙ rw (left, right) (simp append_assoc);
      }

pub page_front : (n m : ℕ) (a b : List ℕ) → n + length (a ++ b) ≤ m → n + length a ≤ m
page_front n m a b h = omega (arith, length-append a b)
