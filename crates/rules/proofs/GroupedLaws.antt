-- A placing's changes with those of one tick taken together: grouped-kept, grouped-room, grouped-steps, grouped-amounts.
use Prim.Native.Nat.{ℕ, zero, suc, ◌+◌, ◌*◌, ◌-◌, ◌≤◌, ◌<◌}
use mathlib.Core.Bool.{Bool, true, false, cond, ◌&&◌}
use mathlib.Core.List.{List, [], ◌∷◌, ◌++◌}
use mathlib.Core.Path.{◌≡◌, refl, sym, ◌∙◌, ap}
use native.Mathlib.Omega.{arith}
use lib.Dec.{leb, ltb}
use lib.ListN.{length}
use borrow.Author.Tests.{ltb-true, ltb-false, lt-ltb, eqb-true, ne_eqb}
use Rattle.rules.specs.Count.{sum_over, sum_below, sum_where, count_where}
use Rattle.rules.specs.Limits.{max_pairs, max_files, file_sizes, work_sizes}
use Rattle.rules.specs.Model.{Colour, same_colour, Instance, work_at, file_at, file_count, size_at, move_time_at, Schedule}
use Rattle.rules.specs.Scheduling.{aware, Partial, reads, makes, crossing, crossing_size, output_size, assign}
use Rattle.rules.specs.Promises.{WellFormed, Trial}
use Rattle.rules.specs.Changes.{Change}
use Rattle.rules.specs.Staircase.{Step, Staircase, free_at, stairs, release_on, file_changes, work_changes, placing_changes, steps_after_all, input_size, moves_in, change_if, own_changes, other_changes, grouped_changes, Placed}
use Rattle.rules.proofs.Tests.{split, by_order, clash, and-true, cond-zero, cond-under}
use Rattle.rules.proofs.CountLaws.{sum-cong, sum-add}
use Rattle.rules.proofs.ChangeLaws.{sum-append, sum-front, risen, fallen}
use Rattle.rules.proofs.StaircaseLaws.{staircase_unique, staircase-same, free_after_all, all_after, stairs-after}
use Rattle.rules.proofs.StairsLaws.{stairs-are, placed-sound, counted, amount_of, changed-sum, stairs_kept, placing-room, placing-steps, placing-amounts}

-- ---- two lists of changes that come to the same

pub same_after : (xs ys : List Change) (f : ℕ → ℕ) (ss : List Step) → Staircase f ss → ((t : ℕ) → sum_over (risen t) ys ≤ f t)
    → ((t : ℕ) → sum_over (risen t) xs ≡ sum_over (risen t) ys) → ((t : ℕ) → sum_over (fallen t) xs ≡ sum_over (fallen t) ys)
    → steps_after_all xs ss ≡ steps_after_all ys ss
same_after xs ys f ss c room up down =
    let room' : (t : ℕ) → sum_over (risen t) xs ≤ f t = λ t. omega (arith, room t, up t) in
    staircase_unique (free_after_all ys f) _ _
    (staircase-same (free_after_all xs f) (free_after_all ys f) (steps_after_all xs ss)
    (λ t. omega (arith, all_after xs f room' t, all_after ys f room t, up t, down t))
    (stairs-after xs f ss c room'))
    (stairs-after ys f ss c room)

-- ---- sums over a placing's changes, of any value of a change

abbrev change : ℕ → Bool → ℕ → Change
change t b z = record { tick = t; rises = b; amount = z }

sum-none : (h : Change → ℕ) → sum_over h [] ≡ 0
unfolding sum_over
sum-none h = refl

-- a change that may stand in front
sum-or : (h : Change → ℕ) (b : Bool) (x : Change) (xs : List Change) → sum_over h (cond b (x ∷ xs) xs) ≡ cond b (h x) 0 + sum_over h xs
unfolding sum_over
sum-or h true x xs = refl
sum-or h false x xs = omega arith

-- because of a file, by whether it is read, crosses and is made, and whether the memory is the task's own; its move starts at w
abbrev by_file : (rd cr mk cd : Bool) (w s r z : ℕ) → List Change
by_file rd cr mk cd w s r z =
    cond rd
    (cond cr (cond cd (change w true z ∷ change r false z ∷ []) (change s false z ∷ [])) (cond cd (change r false z ∷ []) []))
    (cond (mk && cd) (change s true z ∷ []) [])

-- in the task's own memory, and in the other
own-file : (h : Change → ℕ) (rd cr mk cd : Bool) (v w s r z : ℕ) → cd ≡ true → (cr ≡ true → rd ≡ true) → (cr ≡ true → w ≡ v) → (rd ≡ true → mk ≡ false)
    → sum_over h (by_file rd cr mk cd w s r z)
    ≡ cond cr (h (change v true z)) 0 + cond mk (h (change s true z)) 0 + cond rd (h (change r false z)) 0
unfolding sum_over
own-file h rd cr mk false v w s r z e a b m = clash e refl
own-file h true true true true v w s r z e a b m = clash refl (m refl)
own-file h true true false true v w s r z e a b m = let q : w ≡ v = b refl in rw q (omega arith)
own-file h true false true true v w s r z e a b m = clash refl (m refl)
own-file h true false false true v w s r z e a b m = omega arith
own-file h false true mk true v w s r z e a b m = clash (a refl) refl
own-file h false false true true v w s r z e a b m = omega arith
own-file h false false false true v w s r z e a b m = omega arith

other-file : (h : Change → ℕ) (rd cr mk cd : Bool) (w s r z : ℕ) → cd ≡ false → (cr ≡ true → rd ≡ true)
    → sum_over h (by_file rd cr mk cd w s r z) ≡ cond cr (h (change s false z)) 0
unfolding sum_over
other-file h rd cr mk true w s r z e a = clash refl e
other-file h true true mk false w s r z e a = omega arith
other-file h true false mk false w s r z e a = refl
other-file h false true mk false w s r z e a = clash (a refl) refl
other-file h false false true false w s r z e a = refl
other-file h false false false false w s r z e a = refl

-- because of the working memory
abbrev by_work : (cd : Bool) (s r z : ℕ) → List Change
by_work cd s r z = cond (cd && ltb 0 z) (change s true z ∷ change r false z ∷ []) []

own-work : (h : Change → ℕ) (cd : Bool) (s r z : ℕ) → cd ≡ true
    → sum_over h (by_work cd s r z) ≡ cond (ltb 0 z) (h (change s true z)) 0 + cond (ltb 0 z) (h (change r false z)) 0
unfolding sum_over
own-work h cd s r z e = rw e (split (ltb 0 z) (λ p. rw p (omega arith)) (λ p. rw p))

other-work : (h : Change → ℕ) (cd : Bool) (s r z : ℕ) → cd ≡ false → sum_over h (by_work cd s r z) ≡ 0
unfolding sum_over
other-work h cd s r z e = rw e

sum-if : (h : Change → ℕ) (t : ℕ) (b : Bool) (z : ℕ) → sum_over h (change_if t b z) ≡ cond (ltb 0 z) (h (change t b z)) 0
unfolding sum_over
sum-if h t b z = split (ltb 0 z) (λ p. rw p (omega arith)) (λ p. rw p)

-- three sums by index
sum-three : (n : ℕ) (e f g : ℕ → ℕ) → sum_below n (λ k. e k + f k + g k) ≡ sum_below n e + sum_below n f + sum_below n g
sum-three n e f g = omega (arith, sum-add n (λ k. e k + f k) g, sum-add n e f)

module _ (h : Change → ℕ) (I : Instance) (P : Schedule) (i : ℕ) (c : Colour) (s : ℕ) where
  abbrev r : ℕ
  r = release_on I i c s

  crossing-read : (k : ℕ) → crossing I P i c k ≡ true → reads I i k ≡ true
  crossing-read k e = (and-true (reads I i k) _ e).0

  -- of a crossing file, of a file made, of a file read, of a crossing file in the other memory
  abbrev entering : ℕ → ℕ
  entering k = cond (crossing I P i c k) (h (change (s - move_time_at I k) true (size_at I k))) 0

  abbrev making : ℕ → ℕ
  making k = cond (makes I i k) (h (change s true (size_at I k))) 0

  abbrev reading : ℕ → ℕ
  reading k = cond (reads I i k) (h (change r false (size_at I k))) 0

  abbrev leaving : ℕ → ℕ
  leaving k = cond (crossing I P i c k) (h (change s false (size_at I k))) 0

  moves_from : (k m : ℕ) → sum_over h (moves_in I P i c s k m) ≡ sum_below m (λ j. entering (k + j))
  unfolding moves_in sum_below
  moves_from k zero = sum-none h
  moves_from k (suc m) = omega (
    arith,
    sum-or h (crossing I P i c k) (change (s - move_time_at I k) true (size_at I k)) (moves_in I P i c s (suc k) m),
    moves_from (suc k) m,
    sum-front m (λ j. entering (k + j)),
    ap entering (let z : k + 0 ≡ k = omega arith in z),
    sum-cong m (λ j. entering (k + suc j)) (λ j. entering (suc k + j)) (λ j l. ap entering (let z : k + suc j ≡ suc k + j = omega arith in z)),
  )

  moves-all : (m : ℕ) → sum_over h (moves_in I P i c s 0 m) ≡ sum_below m entering
  moves-all m = moves_from 0 m ∙ sum-cong m (λ j. entering (0 + j)) entering (λ j l. ap entering (let z : 0 + j ≡ j = omega arith in z))

  own-files : WellFormed I → (d : Colour) → same_colour c d ≡ true
      → sum_below (file_count I) (λ k. sum_over h (file_changes I P i c s d k))
      ≡ sum_below (file_count I) entering + sum_below (file_count I) making + sum_below (file_count I) reading
  own-files W d e =
      sum-cong (file_count I) (λ k. sum_over h (file_changes I P i c s d k)) (λ k. entering k + making k + reading k) (λ k l.
      own-file h (reads I i k) (crossing I P i c k) (makes I i k) (same_colour c d) (s - move_time_at I k) _ s r (size_at I k) e (crossing-read k) (λ y. rw y)
      (λ y. ne_eqb (file_at I k).maker i (λ q. omega (arith, W.ordered k l, eqb-true (file_at I k).reader i y))))
      ∙ sum-three (file_count I) entering making reading

  other-files : (d : Colour) → same_colour c d ≡ false
      → sum_below (file_count I) (λ k. sum_over h (file_changes I P i c s d k)) ≡ sum_below (file_count I) leaving
  other-files d e =
      sum-cong (file_count I) (λ k. sum_over h (file_changes I P i c s d k)) leaving (λ k l.
      other-file h (reads I i k) (crossing I P i c k) (makes I i k) (same_colour c d) _ s r (size_at I k) e (crossing-read k))

  own-sum : sum_over h (own_changes I P i c s)
      ≡ sum_below (file_count I) entering
      + cond (ltb 0 (output_size I i + work_at I i)) (h (change s true (output_size I i + work_at I i))) 0
      + cond (ltb 0 (input_size I i + work_at I i)) (h (change r false (input_size I i + work_at I i))) 0
  unfolding own_changes
  own-sum =
      let a : List Change = change_if s true (output_size I i + work_at I i) in
      let b : List Change = change_if r false (input_size I i + work_at I i) in
      omega (
        arith,
        sum-append h (moves_in I P i c s 0 (file_count I) ++ a) b,
        sum-append h (moves_in I P i c s 0 (file_count I)) a,
        moves-all (file_count I),
        sum-if h s true (output_size I i + work_at I i),
        sum-if h r false (input_size I i + work_at I i),
      )

  other-sum : sum_over h (other_changes I P i c s) ≡ cond (ltb 0 (crossing_size I P i c)) (h (change s false (crossing_size I P i c))) 0
  unfolding other_changes
  other-sum = sum-if h s false (crossing_size I P i c)

-- ---- a value that grows with the amount

-- of nothing it is nothing, and of two amounts together what it is of each
record Adds (h : Change → ℕ) : Type 0 where
  none : (t : ℕ) (b : Bool) → h (change t b 0) ≡ 0
  both : (t : ℕ) (b : Bool) (x y : ℕ) → h (change t b (x + y)) ≡ h (change t b x) + h (change t b y)

zeros : (l b : Bool) → ◌≡◌ {A = ℕ} (cond l (cond b 0 0) 0) 0
zeros true b = cond-zero b
zeros false b = refl

risen-adds : (t : ℕ) → Adds (risen t)
risen-adds t = record { none = λ u b. zeros (leb u t) b; both = λ u b. ups (leb u t) b }
  where
    ups : (l b : Bool) (x y : ℕ) → cond l (cond b (x + y) 0) 0 ≡ cond l (cond b x 0) 0 + cond l (cond b y 0) 0
    ups true true x y = refl
    ups true false x y = refl
    ups false b x y = refl

fallen-adds : (t : ℕ) → Adds (fallen t)
fallen-adds t = record { none = λ u b. zeros (leb u t) b; both = λ u b. downs (leb u t) b }
  where
    downs : (l b : Bool) (x y : ℕ) → cond l (cond b 0 (x + y)) 0 ≡ cond l (cond b 0 x) 0 + cond l (cond b 0 y) 0
    downs true true x y = refl
    downs true false x y = refl
    downs false b x y = refl

amount-adds : Adds amount_of
amount-adds = record { none = λ t b. refl; both = λ t b x y. refl }

module _ (h : Change → ℕ) (A : Adds h) (t : ℕ) (b : Bool) where
  -- of an amount that may be nothing
  adds-if : (z : ℕ) → cond (ltb 0 z) (h (change t b z)) 0 ≡ h (change t b z)
  adds-if z = split (ltb 0 z) (λ p. rw p) (λ p. let e : z ≡ 0 = omega (arith, ltb-false 0 z p) in rw e (sym (A.none t b)))

  adds-where : (n : ℕ) (p : ℕ → Bool) (f : ℕ → ℕ) → sum_below n (λ k. cond (p k) (h (change t b (f k))) 0) ≡ h (change t b (sum_where n p f))
  unfolding sum_below
  adds-where zero p f = sym (A.none t b)
  adds-where (suc n) p f = omega (arith, adds-where n p f, A.both t b (sum_where n p f) (cond (p n) (f n) 0), at (p n) (f n))
    where
      at : (q : Bool) (z : ℕ) → h (change t b (cond q z 0)) ≡ cond q (h (change t b z)) 0
      at true z = refl
      at false z = A.none t b

-- ---- how many changes

length-counted : (xs : List Change) → length xs ≡ sum_over counted xs
unfolding sum_over
length-counted [] = refl
length-counted (x ∷ xs) = omega (arith, length-counted xs)

-- a sum that is not 0 has a term
some-where : (n : ℕ) (p : ℕ → Bool) (f : ℕ → ℕ) → 0 < sum_where n p f → 1 ≤ count_where n p
unfolding sum_below
some-where zero p f l = absurd (omega arith)
some-where (suc n) p f l = split (p n)
    (λ e. rw e (omega arith))
    (λ e. rw e (omega (arith, some-where n p f (let m : 0 < sum_where n p f + 0 = rw e at l in omega arith))))

one-if : (z m : ℕ) → (0 < z → 1 ≤ m) → cond (ltb 0 z) 1 0 ≤ m
one-if z m h = cond-under (ltb 0 z) 1 m (λ e. h (ltb-true 0 z e))

one-either : (z w m : ℕ) → (0 < z → 1 ≤ m) → cond (ltb 0 (z + w)) 1 0 ≤ m + cond (ltb 0 w) 1 0
one-either z w m h = one-if (z + w) _ (λ l. by_order 0 w
    (λ k. rw (lt-ltb 0 w k) (omega arith))
    (λ k. omega (arith, h (omega arith))))

-- ---- the grouped changes come to what a placing's do

module _ (I : Instance) (W : WellFormed I) (Q : Partial) (p : Placed I Q) (i : ℕ) (c : Colour) (s : ℕ) (T : Trial aware I Q i c s) (d : Colour) where
  abbrev P : Schedule
  P = Q.schedule

  abbrev n : ℕ
  n = file_count I

  abbrev grouped : List Change
  grouped = grouped_changes I P i c s d

  abbrev placing : List Change
  placing = placing_changes I P i c s d

  placing-sum : (h : Change → ℕ) → sum_over h placing ≡ sum_below n (λ k. sum_over h (file_changes I P i c s d k)) + sum_over h (work_changes I i c s d)
  placing-sum h = let q = placed-sound I W p in changed-sum I W q.0 Q q.1 q.2 i c s T d h

  module _ (h : Change → ℕ) where
    own-placing : same_colour c d ≡ true → sum_over h placing
        ≡ sum_below n (entering h I P i c s) + sum_below n (making h I P i c s) + sum_below n (reading h I P i c s)
        + (cond (ltb 0 (work_at I i)) (h (change s true (work_at I i))) 0 + cond (ltb 0 (work_at I i)) (h (change (release_on I i c s) false (work_at I i))) 0)
    own-placing e = omega (arith, placing-sum h, own-files h I P i c s W d e, own-work h (same_colour c d) s (release_on I i c s) (work_at I i) e)

    other-placing : same_colour c d ≡ false → sum_over h placing ≡ sum_below n (leaving h I P i c s)
    other-placing e = omega (arith, placing-sum h, other-files h I P i c s d e, other-work h (same_colour c d) s (release_on I i c s) (work_at I i) e)

  grouped-sum : (h : Change → ℕ) → Adds h → sum_over h grouped ≡ sum_over h placing
  unfolding output_size input_size crossing_size
  grouped-sum h A =
      let r = release_on I i c s in
      let w = work_at I i in
      split (same_colour c d)
      (λ e. rw e (omega (
        arith,
        own-sum h I P i c s,
        own-placing h e,
        adds-if h A s true (output_size I i + w),
        adds-if h A r false (input_size I i + w),
        adds-if h A s true w,
        adds-if h A r false w,
        A.both s true (output_size I i) w,
        A.both r false (input_size I i) w,
        adds-where h A s true n (makes I i) (size_at I),
        adds-where h A r false n (reads I i) (size_at I),
      )))
      (λ e. rw e (omega (
        arith,
        other-sum h I P i c s,
        other-placing h e,
        adds-if h A s false (crossing_size I P i c),
        adds-where h A s false n (crossing I P i c) (size_at I),
      )))

  grouped-count : sum_over counted grouped ≤ sum_over counted placing
  unfolding output_size input_size crossing_size
  grouped-count = split (same_colour c d)
      (λ e. rw e (omega (
        arith,
        own-sum counted I P i c s,
        own-placing counted e,
        one-either (output_size I i) (work_at I i) (count_where n (makes I i)) (some-where n (makes I i) (size_at I)),
        one-either (input_size I i) (work_at I i) (count_where n (reads I i)) (some-where n (reads I i) (size_at I)),
      )))
      (λ e. rw e (omega (
        arith,
        other-sum counted I P i c s,
        other-placing counted e,
        one-if (crossing_size I P i c) (count_where n (crossing I P i c)) (some-where n (crossing I P i c) (size_at I)),
      )))

  pub grouped-room : (t : ℕ) → sum_over (risen t) (grouped_changes I Q.schedule i c s d) ≤ free_at I Q.schedule d t
  grouped-room t = omega (arith, grouped-sum (risen t) (risen-adds t), placing-room I W Q p i c s T d t)

  pub grouped-kept : steps_after_all (grouped_changes I Q.schedule i c s d) (stairs I Q.schedule d) ≡ stairs I (assign I Q i c s).schedule d
  grouped-kept = same_after grouped placing (free_at I P d) (stairs I P d) (stairs-are I P d) (placing-room I W Q p i c s T d)
      (λ t. grouped-sum (risen t) (risen-adds t)) (λ t. grouped-sum (fallen t) (fallen-adds t))
      ∙ stairs_kept I W Q p i c s T d

  pub grouped-steps : length (stairs I Q.schedule d) + length (grouped_changes I Q.schedule i c s d) ≤ max_pairs
  grouped-steps = omega (arith, length-counted grouped, grouped-count, placing-steps I W Q p i c s T d)

  pub grouped-amounts : sum_over amount_of (grouped_changes I Q.schedule i c s d) ≤ 2 * (max_files * file_sizes.most + work_sizes.most)
  grouped-amounts = omega (arith, grouped-sum amount_of amount-adds, placing-amounts I W Q p i c s T d)
