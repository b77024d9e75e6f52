-- Peaks and the first instant over a limit, from a memory's changes: changes_law, judge_by_changes_law.
use Prim.Native.Nat.{ℕ, zero, suc, ◌+◌, ◌-◌, ◌≤◌, ◌<◌, min}
use mathlib.Core.Bool.{Bool, true, false, cond, ◌&&◌}
use mathlib.Core.List.{List, [], ◌∷◌, ◌++◌}
use mathlib.Core.Option.{Option, none, some}
use mathlib.Core.Path.{◌≡◌, refl, sym, ◌∙◌, ap}
use mathlib.Core.Logic.{◌↔◌}
use native.Mathlib.Omega.{arith}
use native.Mathlib.Decide.{dec_le}
use lib.Dec.{leb, ltb}
use lib.ListN.{length}
use borrow.Author.Tests.{ltb-true, ltb-false, lt-ltb, le-ltb, leb-true, leb-false, le-leb, lt-leb}
use Rattle.rules.specs.Count.{sum_over, sum_below, first_below, list_below}
use Rattle.rules.specs.Model.{Colour, blue, red, same_colour, Instance, limit_of, task_count, work_at, file_at, file_count, size_at, Run, is_placed, Schedule, run_at, move_at, colour_of, maker_run, reader_run, moved}
use Rattle.rules.specs.Residency.{Hold, never, during, since, closed_hold, hold_of, work_by, work_of, covers, files_held, work_held, held}
use Rattle.rules.specs.Validity.{Complete, Claim, OnTime, AllOnTime, overlaps, reads_early, over, peak, true_claim, same_claim, refused_by, accepted_with, judged_claim, judged_memory, judged_timing, judge}
use Rattle.rules.specs.Promises.{WellFormed, First}
use Rattle.rules.specs.Changes.{Residency, residencies, Change, changes_by, changes_in, change_at, time_key, InOrder, InTime, running_total, greatest_total, over_after, first_over, sooner, claim_by_changes, memory_by_first, memory_by_changes, judge_by_changes}
use Rattle.rules.specs.ChangesPromises.{SameTotals, ChangesLaw, JudgeByChangesLaw}
use Rattle.rules.proofs.Tests.{split, by_order, clash}
use Rattle.rules.proofs.CountLaws.{sum-count, max-bound, max-under, first-before, first_holds, first-bound, first-none, first-is, none_first as None-found}
use Rattle.rules.proofs.HoldLaws.{hold-closed}
use Rattle.rules.proofs.CompleteLaws.{maker-placed, reader-placed, peak-greatest}
use Rattle.rules.proofs.JudgeLaws.{settled}
use Rattle.rules.proofs.ValidLaws.{on_time-exact, within-over, over-limit, more-over}
use Rattle.rules.proofs.TickFaultLaws.{over-settled}
use Rattle.rules.proofs.SameLaws.{same-sums}

-- ---- sums

pub sum-append : {A : Type 0} (f : A → ℕ) (xs ys : List A) → sum_over f (xs ++ ys) ≡ sum_over f xs + sum_over f ys
unfolding sum_over
sum-append f [] ys = omega arith
sum-append f (x ∷ xs) ys = omega (arith, sum-append f xs ys)

-- the first value apart
pub sum-front : (n : ℕ) (f : ℕ → ℕ) → sum_below (suc n) f ≡ f 0 + sum_below n (λ j. f (suc j))
unfolding sum_below
sum-front zero f = omega arith
sum-front (suc n) f = omega (arith, sum-front n f)

-- by index
sum-index : (f : Change → ℕ) (xs : List Change) → sum_over f xs ≡ sum_below (length xs) (λ j. f (change_at xs j))
unfolding sum_over sum_below
sum-index f [] = refl
sum-index f (x ∷ xs) = omega (arith, sum-index f xs, sum-front (length xs) (λ j. f (change_at (x ∷ xs) j)))

-- a front of a sum is at most a sum, and a sum at most a front that has all its values
front-under : (n k : ℕ) (f g : ℕ → ℕ) → k ≤ n → ((j : ℕ) → j < k → f j ≤ g j) → sum_below k f ≤ sum_below n g
unfolding sum_below
front-under zero zero f g l h = omega arith
front-under zero (suc k) f g l h = absurd (omega arith)
front-under (suc n) k f g l h = elim (dec_le k n) [
  | yes m ↦ omega (arith, front-under n k f g m h)
  | no m ↦ let e : k ≡ suc n = omega arith in rw e (omega (arith, front-under n n f g (omega arith) (λ j lj. h j (omega arith)), h n (omega arith)))
]

under-front : (n k : ℕ) (f g : ℕ → ℕ) → k ≤ n → ((j : ℕ) → j < k → g j ≤ f j) → ((j : ℕ) → k ≤ j → j < n → g j ≡ 0) → sum_below n g ≤ sum_below k f
unfolding sum_below
under-front zero zero f g l h z = omega arith
under-front zero (suc k) f g l h z = absurd (omega arith)
under-front (suc n) k f g l h z = elim (dec_le k n) [
  | yes m ↦ omega (arith, under-front n k f g m h (λ j a b. z j a (omega arith)), z n m (omega arith))
  | no m ↦ let e : k ≡ suc n = omega arith in rw e (omega (arith, under-front n n f g (omega arith) (λ j lj. h j (omega arith)) (λ j a b. absurd (omega arith)), h n (omega arith)))
]

-- ---- what rises and falls up to a tick

abbrev up : Change → ℕ
up x = cond x.rises x.amount 0

abbrev down : Change → ℕ
down x = cond x.rises 0 x.amount

-- rises at or before t, rises before t, falls at or before t
abbrev pub risen : ℕ → Change → ℕ
risen t x = cond (leb x.tick t) (up x) 0

abbrev pub risen_before : ℕ → Change → ℕ
risen_before t x = cond (ltb x.tick t) (up x) 0

abbrev pub fallen : ℕ → Change → ℕ
fallen t x = cond (leb x.tick t) (down x) 0

-- ---- time order

key-tick : (x y : Change) → time_key x ≤ time_key y → x.tick ≤ y.tick
key-tick x y h = split x.rises
    (λ e. split y.rises (λ f. omega (arith, rw (e, f) at h)) (λ f. omega (arith, rw (e, f) at h)))
    (λ e. split y.rises (λ f. omega (arith, rw (e, f) at h)) (λ f. omega (arith, rw (e, f) at h)))

-- behind a rise no fall of its tick or before is left
no-fall : (x y : Change) → x.rises ≡ true → time_key x ≤ time_key y → fallen x.tick y ≡ 0
no-fall x y e h = split y.rises
    (λ f. rw f (split (leb y.tick x.tick) (λ g. rw g) (λ g. rw g)))
    (λ f. rw (lt-leb y.tick x.tick (omega (arith, rw (e, f) at h))))

-- ---- the running total over changes in order

cond-zero-up : (b : Bool) (x : ℕ) → cond b x 0 ≤ x
cond-zero-up true x = omega arith
cond-zero-up false x = omega arith

module _ (xs : List Change) (order : InOrder xs) where
  abbrev n : ℕ
  n = length xs

  abbrev at : ℕ → Change
  at = change_at xs

  -- what the first k bring
  abbrev ups : ℕ → ℕ
  ups k = sum_below k (λ j. up (at j))

  abbrev downs : ℕ → ℕ
  downs k = sum_below k (λ j. down (at j))

  keys-ascend : (i d : ℕ) → i + d < n → time_key (at i) ≤ time_key (at (i + d))
  keys-ascend i zero l = let e : i + 0 ≡ i = omega arith in rw e (omega arith)
  keys-ascend i (suc d) l =
      let e : i + suc d ≡ suc (i + d) = omega arith in
      let h : time_key (at i) ≤ time_key (at (i + d)) = keys-ascend i d (omega arith) in
      let s : time_key (at (i + d)) ≤ time_key (at (suc (i + d))) = order (i + d) (omega arith) in
      rw e (omega arith)

  ascend : (i j : ℕ) → i ≤ j → j < n → time_key (at i) ≤ time_key (at j)
  ascend i j l m =
      let e : i + (j - i) ≡ j = omega arith in
      rw e at (keys-ascend i (j - i) (omega arith))

  ticks-ascend : (i j : ℕ) → i ≤ j → j < n → (at i).tick ≤ (at j).tick
  ticks-ascend i j l m = key-tick (at i) (at j) (ascend i j l m)

  -- h is what the changes up to each tick leave, and each fall comes after its rise
  module _ (h : ℕ → ℕ) (left : (t : ℕ) → h t + sum_over (fallen t) xs ≡ sum_over (risen t) xs) (after : (t : ℕ) → sum_over (fallen t) xs ≤ sum_over (risen_before t) xs) where
    -- of the first k, up to the tick of the last of them
    downs-under : (k : ℕ) → k < n → downs (suc k) ≤ sum_over (fallen (at k).tick) xs
    downs-under k l =
        rw (sum-index (fallen (at k).tick) xs)
        (front-under n (suc k) (λ j. down (at j)) (λ j. fallen (at k).tick (at j)) l
        (λ j m. rw (le-leb (at j).tick (at k).tick (ticks-ascend j k (omega arith) l)) (omega arith)))

    ups-over : (k : ℕ) → k < n → sum_over (risen_before (at k).tick) xs ≤ ups (suc k)
    ups-over k l =
        rw (sum-index (risen_before (at k).tick) xs)
        (under-front n (suc k) (λ j. up (at j)) (λ j. risen_before (at k).tick (at j)) l
        (λ j m. cond-zero-up (ltb (at j).tick (at k).tick) (up (at j)))
        (λ j a b. rw (le-ltb (at j).tick (at k).tick (ticks-ascend k j (omega arith) b))))

    -- a fall never takes more than there is
    covered : (k : ℕ) → k ≤ n → downs k ≤ ups k
    unfolding sum_below
    covered zero l = omega arith
    covered (suc k) l = omega (arith, downs-under k l, ups-over k l, after (at k).tick)

    changed : (b : Bool) (r a : ℕ) (u d : ℕ) → r + d ≡ u → d + cond b 0 a ≤ u + cond b a 0 → cond b (r + a) (r - a) + (d + cond b 0 a) ≡ u + cond b a 0
    changed true r a u d e l = omega arith
    changed false r a u d e l = omega arith

    total-is : (k : ℕ) → k ≤ n → running_total xs k + downs k ≡ ups k
    unfolding running_total sum_below
    total-is zero l = refl
    total-is (suc k) l = changed (at k).rises (running_total xs k) (at k).amount (ups k) (downs k) (total-is k (omega arith)) (covered (suc k) l)

    -- after a rise the total is at most what is held at its tick
    rise-under : (k : ℕ) → k < n → (at k).rises ≡ true → running_total xs (suc k) ≤ h (at k).tick
    rise-under k l e =
        let t = (at k).tick in
        let a : ups (suc k) ≤ sum_over (risen t) xs =
        rw (sum-index (risen t) xs)
        (front-under n (suc k) (λ j. up (at j)) (λ j. risen t (at j)) l
        (λ j m. rw (le-leb (at j).tick t (ticks-ascend j k (omega arith) l)) (omega arith))) in
        let b : sum_over (fallen t) xs ≤ downs (suc k) =
        rw (sum-index (fallen t) xs)
        (under-front n (suc k) (λ j. down (at j)) (λ j. fallen t (at j)) l
        (λ j m. cond-zero-up (leb (at j).tick t) (down (at j)))
        (λ j p q. no-fall (at k) (at j) e (ascend k j (omega arith) q))) in
        omega (arith, a, b, total-is (suc k) l, left t)

    -- after a fall it is at most what it was
    fall-under : (k : ℕ) → (at k).rises ≡ false → running_total xs (suc k) ≤ running_total xs k
    unfolding running_total
    fall-under k e = rw e (omega arith)

    -- the changes at or before t
    pub until : ℕ → ℕ
    until t = first_below n (λ j. ltb t (at j).tick)

    pub until-bound : (t : ℕ) → until t ≤ n
    unfolding until
    until-bound t = first-bound n (λ j. ltb t (at j).tick)

    pub in-until : (t j : ℕ) → j < until t → (at j).tick ≤ t
    unfolding until
    in-until t j l = ltb-false _ _ (first-before n (λ j. ltb t (at j).tick) j l)

    pub past-until : (t j : ℕ) → until t ≤ j → j < n → t < (at j).tick
    unfolding until
    past-until t j l m =
        let x : t < (at (until t)).tick = ltb-true _ _ (first_holds n (λ j. ltb t (at j).tick) (omega arith)) in
        omega (arith, x, ticks-ascend (until t) j l m)

    -- and that many are they
    pub until-count : (t : ℕ) → sum_over (λ x. cond (leb x.tick t) 1 0) xs ≡ until t
    until-count t =
        let f : Change → ℕ = λ x. cond (leb x.tick t) 1 0 in
        let a : sum_below (until t) (λ j. 1) ≤ sum_below n (λ j. f (at j)) =
        front-under n (until t) (λ j. 1) (λ j. f (at j)) (until-bound t) (λ j m. rw (le-leb (at j).tick t (in-until t j m)) (omega arith)) in
        let b : sum_below n (λ j. f (at j)) ≤ sum_below (until t) (λ j. 1) =
        under-front n (until t) (λ j. 1) (λ j. f (at j)) (until-bound t)
        (λ j m. cond-zero-up (leb (at j).tick t) 1)
        (λ j p q. rw (lt-leb (at j).tick t (past-until t j p q))) in
        omega (arith, sum-index f xs, a, b, sum-count (until t) (λ j. 1) (λ j _. refl))

    -- after them the total is what is held at t
    pub total-until : (t : ℕ) → running_total xs (until t) ≡ h t
    total-until t =
        let k = until t in
        let l = until-bound t in
        let a : ups k ≤ sum_over (risen t) xs = rw (sum-index (risen t) xs)
        (front-under n k (λ j. up (at j)) (λ j. risen t (at j)) l (λ j m. rw (le-leb (at j).tick t (in-until t j m)) (omega arith))) in
        let b : sum_over (risen t) xs ≤ ups k = rw (sum-index (risen t) xs)
        (under-front n k (λ j. up (at j)) (λ j. risen t (at j)) l
        (λ j m. cond-zero-up (leb (at j).tick t) (up (at j)))
        (λ j p q. rw (lt-leb (at j).tick t (past-until t j p q)))) in
        let c : downs k ≤ sum_over (fallen t) xs = rw (sum-index (fallen t) xs)
        (front-under n k (λ j. down (at j)) (λ j. fallen t (at j)) l (λ j m. rw (le-leb (at j).tick t (in-until t j m)) (omega arith))) in
        let d : sum_over (fallen t) xs ≤ downs k = rw (sum-index (fallen t) xs)
        (under-front n k (λ j. down (at j)) (λ j. fallen t (at j)) l
        (λ j m. cond-zero-up (leb (at j).tick t) (down (at j)))
        (λ j p q. rw (lt-leb (at j).tick t (past-until t j p q)))) in
        omega (arith, a, b, c, d, total-is k l, left t)

    -- ---- the greatest total

    total-under : (m : ℕ) → ((t : ℕ) → h t ≤ m) → (k : ℕ) → k ≤ n → running_total xs k ≤ m
    unfolding running_total
    total-under m b zero l = omega arith
    total-under m b (suc k) l = split (at k).rises
        (λ e. omega (arith, rise-under k l e, b (at k).tick))
        (λ e. omega (arith, fall-under k e, total-under m b k (omega arith)))

    total-start : running_total xs 0 ≡ 0
    unfolding running_total
    total-start = refl

    -- it bounds every total, that before the first change too
    greatest-bound : (k : ℕ) → k ≤ n → running_total xs k ≤ greatest_total xs
    unfolding greatest_total
    greatest-bound zero l = omega (arith, total-start)
    greatest-bound (suc k) l = max-bound n (λ j. running_total xs (suc j)) k l

    pub greatest-is : (m : ℕ) → ((t : ℕ) → h t ≤ m) → (t : ℕ) → h t ≡ m → greatest_total xs ≡ m
    unfolding greatest_total
    greatest-is m b t e =
        let a : greatest_total xs ≤ m = max-under n (λ k. running_total xs (suc k)) m (λ k l. total-under m b (suc k) l) in
        omega (arith, a, greatest-bound (until t) (until-bound t), total-until t)

    -- ---- the first instant over a limit

    module _ (limit : ℕ) where
      abbrev first : ℕ
      first = first_below n (over_after limit xs)

      over-found : ltb first n ≡ true → first_over limit xs ≡ some (at first).tick
      unfolding first_over
      over-found e = rw e

      over-nowhere : ltb first n ≡ false → first_over limit xs ≡ none
      unfolding first_over
      over-nowhere e = rw e

      -- before it no total is over
      under-before : (k : ℕ) → k ≤ first → running_total xs k ≤ limit
      under-before zero l = omega (arith, total-start)
      under-before (suc k) l = ltb-false _ _ (first-before n (over_after limit xs) k l)

      -- it is a rise, and what is held at its tick is over
      over-there : first < n → limit < h (at first).tick
      over-there l =
          let o : limit < running_total xs (suc first) = ltb-true _ _ (first_holds n (over_after limit xs) l) in
          split (at first).rises
          (λ e. omega (arith, rise-under first l e))
          (λ e. absurd (omega (arith, fall-under first e, under-before first (omega arith))))

      found_first : first < n → First (λ u. limit < h u) (at first).tick
      found_first l = record {
        holds = over-there l;
        least = λ u o. by_order u (at first).tick
            (λ m. absurd (by_order first (until u)
            (λ q. omega (arith, in-until u first q))
            (λ q. omega (arith, under-before (until u) q, total-until u))))
            (λ m. m);
      }

      -- a tick that is over is found
      is_found : (u : ℕ) → limit < h u → first < n
      is_found u o = by_order first n (λ l. l) (λ l. absurd (omega (arith, under-before (until u) (omega (arith, until-bound u)), total-until u)))

      pub first-exact : (t : ℕ) → (first_over limit xs ≡ some t) ↔ First (λ u. limit < h u) t
      first-exact t = (
        (λ e. split (ltb first n)
            (λ y. let q : (at first).tick ≡ t = cc (over-found y) in rw q at (found_first (ltb-true _ _ y)))
            (λ y. let z : ◌≡◌ {A = ℕ} 0 1 = cc (over-nowhere y) in absurd (omega arith))),
        (λ f.
            let l = is_found t f.holds in
            let g = found_first l in
            over-found (lt-ltb _ _ l) ∙ ap some (omega (arith, f.least _ g.holds, g.least t f.holds))),
      )

      pub over_none : first_over limit xs ≡ none → (t : ℕ) → h t ≤ limit
      over_none e t = by_order limit (h t)
          (λ l. let z : ◌≡◌ {A = ℕ} 0 1 = cc (over-found (lt-ltb _ _ (is_found t l))) in absurd (omega arith))
          (λ l. l)

-- ---- the changes of what is held

-- a hold that ends after it starts
abbrev pub Lasts : Hold → Type 0
Lasts never = Unit {0}
Lasts (during from end) = from < end
Lasts (since from) = Unit {0}

abbrev pub AllLast : List Residency → Type 0
AllLast [] = Unit {0}
AllLast (x ∷ xs) = Lasts x.hold × AllLast xs

last-append : (xs ys : List Residency) → AllLast xs → AllLast ys → AllLast (xs ++ ys)
last-append [] ys w v = v
last-append (x ∷ xs) ys (w, ws) v = (w, last-append xs ys ws v)

last-list : (n : ℕ) (g : ℕ → Residency) → ((k : ℕ) → k < n → Lasts (g k).hold) → AllLast (list_below n g)
unfolding list_below
last-list zero g h = tt
last-list (suc n) g h = last-append (list_below n g) (g n ∷ []) (last-list n g (λ k l. h k (omega arith))) (h n (omega arith), tt)

abbrev pub amount_at : ℕ → Residency → ℕ
amount_at t x = cond (covers x.hold t) x.size 0

module _ (t : ℕ) where
  hold-left : (h : Hold) (z : ℕ) → Lasts h → cond (covers h t) z 0 + sum_over (fallen t) (changes_by h z) ≡ sum_over (risen t) (changes_by h z)
  unfolding sum_over
  hold-left never z w = refl
  hold-left (during a b) z w = split (leb a t)
      (λ p. split (ltb t b)
      (λ q. let r : leb b t ≡ false = lt-leb b t (ltb-true t b q) in rw (p, q, r) (omega arith))
      (λ q. let r : leb b t ≡ true = le-leb b t (ltb-false t b q) in rw (p, q, r) (omega arith)))
      (λ p. let r : leb b t ≡ false = lt-leb b t (omega (arith, leb-false a t p)) in rw (p, r) (omega arith))
  hold-left (since a) z w = split (leb a t) (λ p. rw p (omega arith)) (λ p. rw p (omega arith))

  hold-after : (h : Hold) (z : ℕ) → Lasts h → sum_over (fallen t) (changes_by h z) ≤ sum_over (risen_before t) (changes_by h z)
  unfolding sum_over
  hold-after never z w = omega arith
  hold-after (during a b) z w = split (leb b t)
      (λ p. let r : ltb a t ≡ true = lt-ltb a t (omega (arith, leb-true b t p)) in split (leb a t) (λ e. rw (e, p, r) (omega arith)) (λ e. rw (e, p, r) (omega arith)))
      (λ p. split (leb a t) (λ e. rw (e, p) (omega arith)) (λ e. rw (e, p) (omega arith)))
  hold-after (since a) z w = split (leb a t) (λ p. rw p (omega arith)) (λ p. rw p (omega arith))

  pub residencies-left : (xs : List Residency) → AllLast xs
      → sum_over (amount_at t) xs + sum_over (fallen t) (changes_in xs) ≡ sum_over (risen t) (changes_in xs)
  unfolding sum_over changes_in
  residencies-left [] w = refl
  residencies-left (x ∷ xs) (w, ws) = omega (
    arith,
    sum-append (fallen t) (changes_by x.hold x.size) (changes_in xs),
    sum-append (risen t) (changes_by x.hold x.size) (changes_in xs),
    hold-left x.hold x.size w,
    residencies-left xs ws,
  )

  pub residencies-after : (xs : List Residency) → AllLast xs
      → sum_over (fallen t) (changes_in xs) ≤ sum_over (risen_before t) (changes_in xs)
  unfolding sum_over changes_in
  residencies-after [] w = omega arith
  residencies-after (x ∷ xs) (w, ws) = omega (
    arith,
    sum-append (fallen t) (changes_by x.hold x.size) (changes_in xs),
    sum-append (risen_before t) (changes_by x.hold x.size) (changes_in xs),
    hold-after x.hold x.size w,
    residencies-after xs ws,
  )

-- ---- a timetable's residencies

pub sum-list : {A : Type 0} (n : ℕ) (g : ℕ → A) (f : A → ℕ) → sum_over f (list_below n g) ≡ sum_below n (λ k. f (g k))
unfolding sum_over sum_below list_below
sum-list zero g f = refl
sum-list (suc n) g f = omega (arith, sum-append f (list_below n g) (g n ∷ []), sum-list n g f)

-- what a memory holds is the total of its residencies
pub held-residencies : (I : Instance) (P : Schedule) (c : Colour) (t : ℕ) → held I P c t ≡ sum_over (amount_at t) (residencies I P c)
unfolding held files_held work_held residencies
held-residencies I P c t =
    let g : ℕ → Residency = λ k. record { hold = hold_of I P c k; size = size_at I k } in
    let h : ℕ → Residency = λ i. record { hold = work_of I P c i; size = work_at I i } in
    omega (
      arith,
      sum-append (amount_at t) (list_below (file_count I) g) (list_below (task_count I) h),
      sum-list (file_count I) g (amount_at t),
      sum-list (task_count I) h (amount_at t),
    )

module _ (I : Instance) (W : WellFormed I) (P : Schedule) where
  closed-lasts : (moves here : Bool) (b v e r : ℕ) → (moves ≡ false → b < r) → (moves ≡ true → b < e) → (moves ≡ true → v < r) → Lasts (closed_hold moves here b v e r)
  closed-lasts false true b v e r x y z = x refl
  closed-lasts false false b v e r x y z = tt
  closed-lasts true true b v e r x y z = y refl
  closed-lasts true false b v e r x y z = z refl

  work-lasts : (i : ℕ) (r : Run) (c : Colour) → Lasts (work_by I i r c)
  unfolding work_by
  work-lasts i r c = split (is_placed r && same_colour (colour_of I r) c && ltb 0 (work_at I i)) (λ e. rw e (omega arith)) (λ e. rw e tt)

  -- free of 16, no hold ends where it starts or before
  module _ (complete : Complete I P) (on_time : AllOnTime I P) where
    file-lasts : (c : Colour) (k : ℕ) → k < file_count I → Lasts (hold_of I P c k)
    file-lasts c k l =
        let f = file_at I k in
        let m = maker_run I P k in
        let r = reader_run I P k in
        let o : OnTime I P k = on_time k l in
        let a = (W.times (colour_of I r) f.reader (W.exists k l)).least in
        let b = (W.move_times k l).least in
        let e = hold-closed I f m r (move_at P k) c (maker-placed I W P complete k l) (reader-placed I W P complete k l) in
        rw e (closed-lasts (moved I P k) (same_colour (colour_of I m) c) _ _ _ _
        (λ q. omega (arith, a, b, o.unmoved q))
        (λ q. omega (arith, a, b, o.made q))
        (λ q. omega (arith, a, b, o.arrived q)))

    all-last : (c : Colour) → AllLast (residencies I P c)
    unfolding residencies
    all-last c = last-append (list_below (file_count I) (λ k. record { hold = hold_of I P c k; size = size_at I k })) (list_below (task_count I) (λ i. record { hold = work_of I P c i; size = work_at I i }))
        (last-list (file_count I) (λ k. record { hold = hold_of I P c k; size = size_at I k }) (file-lasts c))
        (last-list (task_count I) (λ i. record { hold = work_of I P c i; size = work_at I i }) (λ i _. work-lasts i (run_at P i) c))

    module _ (c : Colour) (xs : List Change) (x : InTime I P c xs) where
      pub left : (t : ℕ) → held I P c t + sum_over (fallen t) xs ≡ sum_over (risen t) xs
      left t = omega (arith, held-residencies I P c t, residencies-left t (residencies I P c) (all-last c), same-sums (fallen t) _ _ x.same, same-sums (risen t) _ _ x.same)

      pub after : (t : ℕ) → sum_over (fallen t) xs ≤ sum_over (risen_before t) xs
      after t = omega (arith, residencies-after t (residencies I P c) (all-last c), same-sums (fallen t) _ _ x.same, same-sums (risen_before t) _ _ x.same)

      pub same-totals : SameTotals I P c xs
      same-totals =
          let g = peak-greatest I W P complete c in
          let r = g.reached in
          record {
            same_peak = greatest-is xs x.order (held I P c) left after (peak I P c) (λ t. g.bound t tt) r.0 r.2;
            same_first = first-exact xs x.order (held I P c) left after;
          }

      pub no-first : (limit : ℕ) → first_over limit xs ≡ none → (t : ℕ) → held I P c t ≤ limit
      no-first = over_none xs x.order (held I P c) left after

pub changes_law : ChangesLaw
changes_law I W P complete on_time c xs x = same-totals I W P complete on_time c xs x

-- ---- the marker

module _ (I : Instance) (W : WellFormed I) (P : Schedule) (complete : Complete I P) (claim : Claim)
    (xs ys : List Change) (x : InTime I P blue xs) (y : InTime I P red ys) where
  none_over : (t : ℕ) → held I P blue t ≤ limit_of I blue → held I P red t ≤ limit_of I red → over I P t ≡ false
  none_over t l m = within-over I P t by
    where
      by : (c : Colour) → held I P c t ≤ limit_of I c
      by blue = l
      by red = m

  -- which memory is over
  over-case : {R : Type 0} (t : ℕ) → over I P t ≡ true → (limit_of I blue < held I P blue t → R) → (limit_of I red < held I P red t → R) → R
  over-case t o f g = by_order (limit_of I blue) (held I P blue t) f (λ l. by_order (limit_of I red) (held I P red t) g (λ m. clash o (none_over t l m)))

  abbrev Over : ℕ → Type 0
  Over t = over I P t ≡ true

  -- nothing is held from there on
  search-first : (t : ℕ) → First Over t → first_below (settled I P) (over I P) ≡ t
  search-first t f =
      let l = over-settled I W P complete t (over-limit I P t f.holds) in
      sym (first-is (settled I P) (over I P) t (omega arith) (λ _. f.holds) (λ u _ o. f.least u o))

  module _ (on_time : AllOnTime I P) where
    abbrev B : Option ℕ
    B = first_over (limit_of I blue) xs

    abbrev R : Option ℕ
    R = first_over (limit_of I red) ys

    blue-first : (t : ℕ) → B ≡ some t → First (λ u. limit_of I blue < held I P blue u) t
    blue-first t = ((same-totals I W P complete on_time blue xs x).same_first (limit_of I blue) t).0

    red-first : (t : ℕ) → R ≡ some t → First (λ u. limit_of I red < held I P red u) t
    red-first t = ((same-totals I W P complete on_time red ys y).same_first (limit_of I red) t).0

    blue-none : B ≡ none → (t : ℕ) → held I P blue t ≤ limit_of I blue
    blue-none = no-first I W P complete on_time blue xs x (limit_of I blue)

    red-none : R ≡ none → (t : ℕ) → held I P red t ≤ limit_of I red
    red-none = no-first I W P complete on_time red ys y (limit_of I red)

    sooner-first : (b r : Option ℕ) → B ≡ b → R ≡ r → (t : ℕ) → sooner b r ≡ some t → First Over t
    sooner-first none none e f t q = let z : ◌≡◌ {A = ℕ} 0 1 = cc in absurd (omega arith)
    sooner-first none (some r) e f t q =
        let d : r ≡ t = cc in
        let g = rw d at (red-first r f) in
        record { holds = more-over I P t red g.holds; least = λ u o. over-case u o (λ l. absurd (omega (arith, blue-none e u))) (g.least u) }
    sooner-first (some b) none e f t q =
        let d : b ≡ t = cc in
        let g = rw d at (blue-first b e) in
        record { holds = more-over I P t blue g.holds; least = λ u o. over-case u o (g.least u) (λ l. absurd (omega (arith, red-none f u))) }
    sooner-first (some b) (some r) e f t q =
        let d : min b r ≡ t = cc in
        let g = blue-first b e in
        let k = red-first r f in
        record {
          holds = elim (dec_le b r) [
            | yes l ↦ let z : b ≡ t = omega arith in rw z at (more-over I P b blue g.holds)
            | no l ↦ let z : r ≡ t = omega arith in rw z at (more-over I P r red k.holds)
          ];
          least = λ u o. over-case u o (λ l. omega (arith, g.least u l)) (λ l. omega (arith, k.least u l));
        }

    sooner-none : (b r : Option ℕ) → B ≡ b → R ≡ r → sooner b r ≡ none → (t : ℕ) → over I P t ≡ false
    sooner-none none none e f q t = none_over t (blue-none e t) (red-none f t)
    sooner-none none (some r) e f q t = let z : ◌≡◌ {A = ℕ} 0 1 = cc in absurd (omega arith)
    sooner-none (some b) none e f q t = let z : ◌≡◌ {A = ℕ} 0 1 = cc in absurd (omega arith)
    sooner-none (some b) (some r) e f q t = let z : ◌≡◌ {A = ℕ} 0 1 = cc in absurd (omega arith)

    same-claims : claim_by_changes I P xs ys ≡ true_claim I P
    unfolding true_claim
    same-claims = rw ((same-totals I W P complete on_time blue xs x).same_peak, (same-totals I W P complete on_time red ys y).same_peak)

    -- the verdict from 17 on
    by_first : (o : Option ℕ) → sooner B R ≡ o → memory_by_first o claim (claim_by_changes I P xs ys) ≡ judged_memory I P claim
    unfolding judged_memory judged_claim
    by_first (some t) e =
        let f = sooner-first B R refl refl t e in
        let g = search-first t f in
        let l : ltb t (settled I P) ≡ true = lt-ltb _ _ (over-settled I W P complete t (over-limit I P t f.holds)) in
        rw (g, l)
    by_first none e =
        let l = None-found (settled I P) (over I P) (λ t _. sooner-none B R refl refl e t) in
        rw l (ap (λ w. cond (same_claim claim w) (accepted_with claim) (refused_by 18 0)) same-claims)

    pub memory-same : memory_by_changes I P claim xs ys ≡ judged_memory I P claim
    unfolding memory_by_changes
    memory-same = by_first (sooner B R) refl

  judge-same : judge_by_changes I P claim xs ys ≡ judge I P claim
  unfolding judge judged_timing judge_by_changes
  judge-same =
      split (ltb (first_below (task_count I) (overlaps I P)) (task_count I))
      (λ a. rw a)
      (λ a. split (ltb (first_below (task_count I) (reads_early I P)) (task_count I))
      (λ b. rw (a, b))
      (λ b. rw (a, b) (memory-same ((on_time-exact I W P).0 (first-none (task_count I) (reads_early I P) b)))))

pub judge_by_changes_law : JudgeByChangesLaw
judge_by_changes_law I W P complete claim xs ys x y = judge-same I W P complete claim xs ys x y
