-- The lowest run of a list that overlaps another: the first that overlaps a run behind it.
use Rattle.std.proofs.Common.{ℕ, ◌+◌, ◌-◌, ◌<◌, ◌≤◌, ◌≡◌, ◌≢◌, ◌∙◌, ap, true, false, ◌&&◌, Bool, IsTrue, ◌↔◌, SomeIndex, List, length, get_or, take, drop, ltb, eqb, arith}
use Rattle.std.proofs.lemmas.List.{take_rest, get_or-drop, length-drop}
use Rattle.rules.proofs.Tests.{by_order, and-swap, eqb-sym, is_false, clash}
use Rattle.runs.specs.First.{FirstOverlap}
use Rattle.runs.specs.Overlaps.{overlapping, overlaps_at, no_run}
use Rattle.runs.specs.declared.Run.{Run}

-- ---- an overlap is mutual

overlapping-sym : (a b : Run) → overlapping a b ≡ overlapping b a
unfolding overlapping
overlapping-sym a b =
    ap (λ (t : Bool). t && ltb a.start b.finish && ltb b.start a.finish) (eqb-sym a.processor b.processor)
    ∙ and-swap (eqb b.processor a.processor) (ltb a.start b.finish) (ltb b.start a.finish)

-- ---- the runs walked

-- no run before i overlaps a later one
abbrev pub Clear : List Run → ℕ → Type 0
Clear l i = (j k : ℕ) → j < i → j < k → k < length l → overlapping (get_or l k no_run) (get_or l j no_run) ≡ false

-- the runs behind the one at i, as the walk lends them
abbrev pub behind : List Run → ℕ → List Run
behind l i = take (length l - (i + 1)) (drop (i + 1) l)

-- the answer at i: whether the run there overlaps one behind it
abbrev pub Asked : List Run → ℕ → Bool → Type 0
Asked l i b = IsTrue b ↔ SomeIndex (behind l i) (λ k. overlaps_at (behind l i) (get_or l i no_run) k ≡ true)

-- no run before i overlaps any other
clear-before : (l : List Run) (i : ℕ) → Clear l i → i ≤ length l → (j k : ℕ) → j < i → k < length l → j ≢ k
    → overlapping (get_or l j no_run) (get_or l k no_run) ≡ false
clear-before l i c h j k ji kl ne = by_order j k
    (λ (o : j < k). overlapping-sym (get_or l j no_run) (get_or l k no_run) ∙ c j k ji o kl)
    (λ o. let below : k < j = omega arith in c k j (omega arith) below (omega arith))

pub none_overlaps : (l : List Run) (i : ℕ) → Clear l i → length l ≤ i → i ≤ length l → FirstOverlap l (length l) (length l)
none_overlaps l i c h g = record {
  within = omega arith;
  before = λ j k jl kl ne. clear-before l i c g j k (omega arith) kl ne;
  found = λ m. absurd (omega arith);
}

pub first_overlaps : (l : List Run) (i : ℕ) (b : Bool) → Clear l i → i < length l → Asked l i b → b ≡ true → FirstOverlap l (length l) i
first_overlaps l i b c h asked e =
    let f = rw take_rest at (asked.0 e) in
    let q : overlapping (get_or (drop (i + 1) l) f.0 no_run) (get_or l i no_run) ≡ true = f.2 in
    let short : f.0 < length (drop (i + 1) l) = f.1 in
    record {
      within = omega arith;
      before = λ j k jl kl ne. clear-before l i c (omega arith) j k jl kl ne;
      found = λ m. (i + 1 + f.0, omega (arith, length-drop (i + 1) l), omega arith, overlapping-sym (get_or l i no_run) (get_or l (i + 1 + f.0) no_run) ∙ rw get_or-drop at q);
    }

-- a run behind the one at i that overlaps it answers yes
overlaps_later : (l : List Run) (i k : ℕ) → i < k → k < length l → overlapping (get_or l k no_run) (get_or l i no_run) ≡ true
    → SomeIndex (behind l i) (λ m. overlaps_at (behind l i) (get_or l i no_run) m ≡ true)
overlaps_later l i k ik kl t =
    let at : get_or (drop (i + 1) l) (k - (i + 1)) no_run ≡ get_or l k no_run = rw get_or-drop (ap (λ n. get_or l n no_run) (omega arith)) in
    rw take_rest (k - (i + 1), omega (arith, length-drop (i + 1) l), rw at t)

pub clear_more : (l : List Run) (i : ℕ) (b : Bool) → Clear l i → Asked l i b → b ≡ false → Clear l (i + 1)
clear_more l i b c asked e j k ji jk kl = by_order j i
    (λ o. c j k o jk kl)
    (λ o.
    let here : j ≡ i = omega arith in
    rw here (is_false (overlapping (get_or l k no_run) (get_or l i no_run)) (λ t. clash (asked.1 (overlaps_later l i k (omega arith) kl t)) e)))
