-- The staircases of the memories: stairs_law, stairs_read_law, stairs_kept.
use Prim.Native.Nat.{ℕ, zero, suc, ◌+◌, ◌*◌, ◌-◌, ◌≤◌, ◌<◌}
use mathlib.Core.Bool.{Bool, true, false, not, cond, ◌&&◌}
use mathlib.Core.List.{List, [], ◌∷◌}
use mathlib.Core.Option.{Option, none, some}
use mathlib.Core.Path.{◌≡◌, refl, sym, ◌∙◌, ap}
use mathlib.Core.Logic.{◌≢◌}
use native.Mathlib.Omega.{arith}
use native.Mathlib.Decide.{dec_le, ℕ_discrete}
use lib.Dec.{leb, ltb, eqb}
use lib.ListN.{length, length-append}
use borrow.Author.Tests.{lt-ltb, le-ltb, leb-false, le-leb, lt-leb, eqb-true, eqb-false, eq-eqb, ne_eqb}
use Rattle.rules.specs.Count.{sum_over, sum_below}
use Rattle.rules.specs.Model.{Colour, blue, red, same_colour, Instance, limit_of, task_count, work_at, file_at, file_count, size_at, move_time_at, Run, is_placed, Schedule, run_at, move_at, colour_of, finish_of, maker_run, reader_run}
use Rattle.rules.specs.Limits.{max_pairs, max_files, file_sizes, work_sizes}
use Rattle.rules.specs.Residency.{Hold, never, during, since, open_hold, closed_hold, hold_of, work_by, work_of, covers, is_held, is_work_held, files_held, work_held, held, horizon}
use Rattle.rules.specs.Scheduling.{aware, Partial, ready, reads, makes, crossing, crossing_size, crossing_time, output_size, arrival, input_start, free_from, assign}
use Rattle.rules.specs.Validity.{WithinLimits}
use Rattle.rules.specs.Promises.{WellFormed, Trial}
use Rattle.rules.specs.Changes.{Change}
use Rattle.rules.specs.Staircase.{Staircase, free_at, steps_up_to, stairs, free_from_steps, release_on, file_changes, files_changes, work_changes, placing_changes, steps_after_all, Placed, unplaced, placed, StairsLaw, StairsReadLaw, StairsKept}
use Rattle.rules.proofs.Tests.{split, by_order, clash, cond-zero, cond-under}
use Rattle.rules.proofs.CountLaws.{sum-cong, sum_mono, sum-add, sum-zero, sum-changed, where-bound}
use Rattle.rules.proofs.WhereLaws.{sum-swap}
use Rattle.rules.proofs.HoldLaws.{hold-none, hold-open, hold-closed, work-unplaced}
use Rattle.rules.proofs.ResidencyLaws.{held-settled, free_from_law, Free}
use Rattle.rules.proofs.ReadyLaws.{ready-unplaced, ready-makers}
use Rattle.rules.proofs.GainLaws.{Adds, same-colour}
use Rattle.rules.proofs.StartLaws.{frees}
use Rattle.rules.proofs.SoundLaws.{Sound, empty-sound, assign-sound, empty-within, assign-within, added, start-input, st}
use Rattle.rules.proofs.ChangeLaws.{sum-append, risen, fallen}
use Rattle.rules.proofs.StaircaseLaws.{staircase_unique, staircase-same, steps-staircase, read-exact, free_after_all, all_after, stairs-after}

-- ---- the hold rule's staircase

pub stairs-are : (I : Instance) (P : Schedule) (c : Colour) → Staircase (free_at I P c) (stairs I P c)
unfolding stairs free_at
stairs-are I P c = steps-staircase (free_at I P c) (horizon I P c) (λ t l. ap (λ h. limit_of I c - h) (held-settled I P c t l))

-- ---- starts 3 and 4

option-same : (a b : Option ℕ) → ((t : ℕ) → a ≡ some t → b ≡ some t) → ((t : ℕ) → b ≡ some t → a ≡ some t) → a ≡ b
option-same none none f g = refl
option-same none (some t) f g = g t refl
option-same (some t) b f g = sym (f t refl)

pub placed-sound : (I : Instance) → WellFormed I → {Q : Partial} → Placed I Q → (n : ℕ) × Sound I n Q × WithinLimits I Q.schedule
placed-sound I W unplaced = (0, empty-sound I, empty-within I)
placed-sound I W (placed {Q = Q} i c s p t) =
    let r = placed-sound I W p in
    (suc r.0, assign-sound I W r.0 Q r.1 aware i c s t, assign-within I W r.0 Q r.1 i c s t r.2)

module _ (I : Instance) (P : Schedule) (c : Colour) (within : (t : ℕ) → held I P c t ≤ limit_of I c) (need : ℕ) where
  abbrev ByHeld : ℕ → Type 0
  ByHeld s = (u : ℕ) → s ≤ u → held I P c u + need ≤ limit_of I c

  abbrev ByFree : ℕ → Type 0
  ByFree s = (u : ℕ) → s ≤ u → need ≤ free_at I P c u

  to_free : (s : ℕ) → ByHeld s → ByFree s
  unfolding free_at
  to_free s h u l = omega (arith, h u l)

  of-free : (s : ℕ) → ByFree s → ByHeld s
  unfolding free_at
  of-free s h u l = omega (arith, h u l, within u)

  pub read_same : free_from_steps (stairs I P c) need ≡ free_from I P c need
  read_same = option-same _ _
      (λ t e. let f = (read-exact (free_at I P c) (stairs I P c) (stairs-are I P c) need t).0 e in
      (free_from_law I P c need t).1 (record { holds = of-free t f.holds; least = λ m h. f.least m (to_free m h) }))
      (λ t e. let f = (free_from_law I P c need t).0 e in
      (read-exact (free_at I P c) (stairs I P c) (stairs-are I P c) need t).1 (record { holds = to_free t f.holds; least = λ m h. f.least m (of-free m h) }))

pub stairs_read_law : StairsReadLaw
stairs_read_law I W Q p c need = read_same I Q.schedule c ((placed-sound I W p).2 c) need

-- ---- how many steps

abbrev one : Bool → ℕ
one b = cond b 1 0

-- the ends of a hold at a tick
abbrev touches : Hold → ℕ → ℕ
touches never t = 0
touches (during a b) t = one (eqb a t) + one (eqb b t)
touches (since a) t = one (eqb a t)

leb-step : (a t : ℕ) → one (eqb a (suc t)) ≡ 0 → leb a t ≡ leb a (suc t)
leb-step a t z = split (eqb a (suc t))
    (λ e. let y : ◌≡◌ {A = ℕ} 1 0 = rw e at z in absurd (omega arith))
    (λ e. by_order t a
    (λ l. let d = eqb-false a (suc t) e in lt-leb a t l ∙ sym (lt-leb a (suc t) (omega arith)))
    (λ l. le-leb a t l ∙ sym (le-leb a (suc t) (omega arith))))

ltb-step : (b t : ℕ) → one (eqb b (suc t)) ≡ 0 → ltb t b ≡ ltb (suc t) b
ltb-step b t z = split (eqb b (suc t))
    (λ e. let y : ◌≡◌ {A = ℕ} 1 0 = rw e at z in absurd (omega arith))
    (λ e. by_order t b
    (λ l. let d = eqb-false b (suc t) e in lt-ltb t b l ∙ sym (lt-ltb (suc t) b (omega arith)))
    (λ l. le-ltb t b l ∙ sym (le-ltb (suc t) b (omega arith))))

-- between its ends a hold does not change
untouched : (h : Hold) (t : ℕ) → touches h (suc t) ≡ 0 → covers h t ≡ covers h (suc t)
untouched never t z = refl
untouched (during a b) t z = rw (leb-step a t (omega arith), ltb-step b t (omega arith))
untouched (since a) t z = leb-step a t z

one_hit : (a n : ℕ) → sum_below n (λ t. one (eqb a (suc t))) ≤ 1
unfolding sum_below
one_hit a zero = omega arith
one_hit a (suc n) = split (eqb a (suc n))
    (λ e.
    let z : sum_below n (λ t. one (eqb a (suc t))) ≡ 0 = sum-zero n _ (λ t l. rw (ne_eqb a (suc t) (λ q. omega (arith, eqb-true a (suc n) e)))) in
    rw e (omega arith))
    (λ e. rw e (omega (arith, one_hit a n)))

-- how many ends a hold has
abbrev pub ends : Hold → ℕ
ends never = 0
ends (during a b) = 2
ends (since a) = 1

hits : (h : Hold) (n : ℕ) → sum_below n (λ t. touches h (suc t)) ≤ ends h
hits never n = omega (arith, sum-zero n (λ t. 0) (λ t l. refl))
hits (during a b) n = omega (arith, sum-add n (λ t. one (eqb a (suc t))) (λ t. one (eqb b (suc t))), one_hit a n, one_hit b n)
hits (since a) n = omega (arith, one_hit a n)

ends-most : (h : Hold) → ends h ≤ 2
ends-most never = omega arith
ends-most (during a b) = omega arith
ends-most (since a) = omega arith

sum-twos : (m : ℕ) (f : ℕ → ℕ) → ((k : ℕ) → f k ≤ 2) → sum_below m f ≤ 2 * m
unfolding sum_below
sum-twos zero f h = omega arith
sum-twos (suc m) f h = omega (arith, sum-twos m f h, h m)

sum-sizes : (m : ℕ) (f : ℕ → ℕ) → ((k : ℕ) → k < m → f k ≤ 2 * file_sizes.most) → sum_below m f ≤ m * (2 * file_sizes.most)
unfolding sum_below
sum-sizes zero f h = omega arith
sum-sizes (suc m) f h = omega (arith, sum-sizes m f (λ k l. h k (omega arith)), h m (omega arith))

sum-part : (n : ℕ) (f : ℕ → ℕ) (k : ℕ) → k < n → f k ≤ sum_below n f
unfolding sum_below
sum-part zero f k l = absurd (omega arith)
sum-part (suc n) f k l = elim (ℕ_discrete k n) [
  | yes e ↦ rw e (omega arith)
  | no e ↦ omega (arith, sum-part n f k (omega arith))
]

-- a step for each tick at which the function changes
length-steps : (f : ℕ → ℕ) (n : ℕ) → length (steps_up_to f n) ≡ suc (sum_below n (λ t. cond (eqb (f t) (f (suc t))) 0 1))
unfolding steps_up_to sum_below
length-steps f zero = refl
length-steps f (suc n) = split (eqb (f n) (f (suc n)))
    (λ e. rw e (omega (arith, length-steps f n)))
    (λ e. rw e (omega (arith, length-steps f n, length-append (steps_up_to f n) (record { tick = suc n; free = f (suc n) } ∷ []))))

module _ (I : Instance) (P : Schedule) (c : Colour) where
  touch : ℕ → ℕ → ℕ
  touch t k = touches (hold_of I P c k) (suc t)

  touch_work : ℕ → ℕ → ℕ
  touch_work t i = touches (work_of I P c i) (suc t)

  abbrev touched : ℕ → ℕ
  touched t = sum_below (file_count I) (touch t) + sum_below (task_count I) (touch_work t)

  unchanged : (t : ℕ) → touched t ≡ 0 → free_at I P c t ≡ free_at I P c (suc t)
  unfolding free_at held files_held work_held touch touch_work
  unchanged t z =
      let at : ℕ → ℕ → ℕ = λ t k. cond (is_held I P c t k) (size_at I k) 0 in
      let by : ℕ → ℕ → ℕ = λ t i. cond (is_work_held I P c t i) (work_at I i) 0 in
      let a : sum_below (file_count I) (at t) ≡ sum_below (file_count I) (at (suc t)) = sum-cong (file_count I) (at t) (at (suc t)) (λ k l.
      ap (λ b. cond b (size_at I k) 0) (untouched (hold_of I P c k) t (let y = sum-part (file_count I) (touch t) k l in omega arith))) in
      let b : sum_below (task_count I) (by t) ≡ sum_below (task_count I) (by (suc t)) = sum-cong (task_count I) (by t) (by (suc t)) (λ i l.
      ap (λ b. cond b (work_at I i) 0) (untouched (work_of I P c i) t (let y = sum-part (task_count I) (touch_work t) i l in omega arith))) in
      omega (arith, a, b)

  step-touches : (t : ℕ) → cond (eqb (free_at I P c t) (free_at I P c (suc t))) 0 1 ≤ touched t
  step-touches t = elim (dec_le 1 (touched t)) [
    | yes l ↦ split (eqb (free_at I P c t) (free_at I P c (suc t))) (λ e. rw e (omega arith)) (λ e. rw e l)
    | no l ↦ rw (eq-eqb _ _ (unchanged t (omega arith))) (omega arith)
  ]

  -- the ends of all that memory c ever holds
  abbrev pub ends_in : ℕ
  ends_in = sum_below (file_count I) (λ k. ends (hold_of I P c k)) + sum_below (task_count I) (λ i. ends (work_of I P c i))

  -- a step at tick 0, and at most one for each end
  pub stairs-ends : length (stairs I P c) ≤ 1 + ends_in
  unfolding stairs touch touch_work
  stairs-ends =
      let n = horizon I P c in
      let f = free_at I P c in
      omega (
        arith,
        length-steps f n,
        sum_mono n (λ t. cond (eqb (f t) (f (suc t))) 0 1) touched (λ t _. step-touches t),
        sum-add n (λ t. sum_below (file_count I) (touch t)) (λ t. sum_below (task_count I) (touch_work t)),
        sum-swap n (file_count I) touch,
        sum-swap n (task_count I) touch_work,
        sum_mono (task_count I) (λ i. sum_below n (λ t. touch_work t i)) (λ i. ends (work_of I P c i)) (λ i _. hits (work_of I P c i) n),
        sum_mono (file_count I) (λ k. sum_below n (λ t. touch t k)) (λ k. ends (hold_of I P c k)) (λ k _. hits (hold_of I P c k) n),
      )

  pub ends-short : ends_in ≤ 2 * (file_count I + task_count I)
  ends-short = omega (
    arith,
    sum-twos (file_count I) (λ k. ends (hold_of I P c k)) (λ k. ends-most (hold_of I P c k)),
    sum-twos (task_count I) (λ i. ends (work_of I P c i)) (λ i. ends-most (work_of I P c i)),
  )

pub stairs_law : StairsLaw
stairs_law I W P c = (stairs-are I P c, omega (arith, stairs-ends I P c, ends-short I P c, W.files, W.tasks.most))

-- ---- a placing

-- a hold that ends: what it covers, and what has fallen
ends_at : (a e t z : ℕ) → a ≤ e → cond (leb a t && ltb t e) z 0 + cond (leb e t) z 0 ≡ cond (leb a t) z 0
ends_at a e t z l = split (leb a t)
    (λ p. by_order t e
    (λ m. rw (p, lt-ltb t e m, lt-leb e t m) (omega arith))
    (λ m. rw (p, le-ltb t e m, le-leb e t m) (omega arith)))
    (λ p. rw (p, lt-leb e t (omega (arith, leb-false a t p))))

abbrev rise : ℕ → ℕ → Change
rise t z = record { tick = t; rises = true; amount = z }

abbrev fall : ℕ → ℕ → Change
fall t z = record { tick = t; rises = false; amount = z }

-- the changes by a file that is read: its maker ran on m, its reader is placed on c, the memory is d's
abbrev read_changes : (m c d : Colour) (w s r z : ℕ) → List Change
read_changes m c d w s r z =
    cond (not (same_colour m c)) (cond (same_colour c d) (rise w z ∷ fall r z ∷ []) (fall s z ∷ [])) (cond (same_colour c d) (fall r z ∷ []) [])

-- how many changes, and what they come to
abbrev pub counted : Change → ℕ
counted x = 1

abbrev pub amount_of : Change → ℕ
amount_of x = x.amount

-- each change is a new end of a hold
closing-ends : (z : ℕ) (m c d : Colour) (b v e r : ℕ)
    → ends (open_hold (same_colour m d) b) + sum_over counted (read_changes m c d v e r z) ≤ ends (closed_hold (not (same_colour m c)) (same_colour m d) b v e r)
unfolding sum_over
closing-ends z blue blue blue b v e r = omega arith
closing-ends z blue blue red b v e r = omega arith
closing-ends z blue red blue b v e r = omega arith
closing-ends z blue red red b v e r = omega arith
closing-ends z red red red b v e r = omega arith
closing-ends z red red blue b v e r = omega arith
closing-ends z red blue red b v e r = omega arith
closing-ends z red blue blue b v e r = omega arith

opening-ends : (z : ℕ) (c d : Colour) (s : ℕ) → ends never + sum_over counted (cond (same_colour c d) (rise s z ∷ []) []) ≤ ends (open_hold (same_colour c d) s)
unfolding sum_over
opening-ends z blue blue s = omega arith
opening-ends z blue red s = omega arith
opening-ends z red blue s = omega arith
opening-ends z red red s = omega arith

abbrev EndsBy : Hold → Hold → List Change → Type 0
EndsBy h h' xs = ends h + sum_over counted xs ≤ ends h'

ends_by : (h g h' g' : Hold) (xs ys : List Change) → h ≡ g → h' ≡ g' → xs ≡ ys → EndsBy g g' ys → EndsBy h h' xs
ends_by h g h' g' xs ys p q r k = rw (p, q, r) k

work-ends : (b : Bool) (s r z : ℕ) → ends (cond b (during s r) never) ≡ sum_over counted (cond b (rise s z ∷ fall r z ∷ []) [])
unfolding sum_over
work-ends true s r z = refl
work-ends false s r z = refl

work-amounts : (b : Bool) (s r z : ℕ) → sum_over amount_of (cond b (rise s z ∷ fall r z ∷ []) []) ≤ 2 * z
unfolding sum_over
work-amounts true s r z = omega arith
work-amounts false s r z = omega arith

module _ (t z : ℕ) where
  abbrev now : Hold → ℕ
  now h = cond (covers h t) z 0

  -- stays, moves in, moves out
  stays : (b r : ℕ) → b ≤ r → now (during b r) + sum_over (fallen t) (fall r z ∷ []) ≡ now (since b) + sum_over (risen t) (fall r z ∷ [])
  unfolding sum_over
  stays b r l = omega (arith, ends_at b r t z l, cond-zero (leb r t))

  enters : (v r : ℕ) → v ≤ r → now (during v r) + sum_over (fallen t) (rise v z ∷ fall r z ∷ []) ≡ now never + sum_over (risen t) (rise v z ∷ fall r z ∷ [])
  unfolding sum_over
  enters v r l = omega (arith, ends_at v r t z l, cond-zero (leb r t), cond-zero (leb v t))

  nothing : now never + sum_over (fallen t) [] ≡ now never + sum_over (risen t) []
  unfolding sum_over
  nothing = refl

  closing : (m c d : Colour) (b v e r : ℕ) → b ≤ r → (not (same_colour m c) ≡ true → b ≤ e) → (not (same_colour m c) ≡ true → v ≤ r)
      → now (closed_hold (not (same_colour m c)) (same_colour m d) b v e r) + sum_over (fallen t) (read_changes m c d v e r z)
      ≡ now (open_hold (same_colour m d) b) + sum_over (risen t) (read_changes m c d v e r z)
  closing blue blue blue b v e r x y w = stays b r x
  closing blue blue red b v e r x y w = nothing
  closing blue red blue b v e r x y w = stays b e (y refl)
  closing blue red red b v e r x y w = enters v r (w refl)
  closing red red red b v e r x y w = stays b r x
  closing red red blue b v e r x y w = nothing
  closing red blue red b v e r x y w = stays b e (y refl)
  closing red blue blue b v e r x y w = enters v r (w refl)

  opening : (c d : Colour) (s : ℕ) → now (open_hold (same_colour c d) s) + sum_over (fallen t) (cond (same_colour c d) (rise s z ∷ []) [])
      ≡ now never + sum_over (risen t) (cond (same_colour c d) (rise s z ∷ []) [])
  unfolding sum_over
  opening blue blue s = omega (arith, cond-zero (leb s t))
  opening blue red s = refl
  opening red blue s = refl
  opening red red s = omega (arith, cond-zero (leb s t))

  -- of a hold before, a hold after and the changes between
  abbrev KeptBy : Hold → Hold → List Change → Type 0
  KeptBy h h' xs = now h' + sum_over (fallen t) xs ≡ now h + sum_over (risen t) xs

  kept_by : (h g h' g' : Hold) (xs ys : List Change) → h ≡ g → h' ≡ g' → xs ≡ ys → KeptBy g g' ys → KeptBy h h' xs
  kept_by h g h' g' xs ys p q r k = rw (p, q, r) k

  abbrev any_changes : (rd cr mk cd : Bool) (w s r : ℕ) → List Change
  any_changes rd cr mk cd w s r =
      cond rd (cond cr (cond cd (rise w z ∷ fall r z ∷ []) (fall s z ∷ [])) (cond cd (fall r z ∷ []) [])) (cond (mk && cd) (rise s z ∷ []) [])

  any-amounts : (rd cr mk cd : Bool) (w s r : ℕ) → sum_over amount_of (any_changes rd cr mk cd w s r) ≤ 2 * z
  unfolding sum_over
  any-amounts true true mk true w s r = omega arith
  any-amounts true true mk false w s r = omega arith
  any-amounts true false mk true w s r = omega arith
  any-amounts true false mk false w s r = omega arith
  any-amounts false cr true true w s r = omega arith
  any-amounts false cr true false w s r = omega arith
  any-amounts false cr false cd w s r = omega arith

  listed-under : (rd cr mk cd : Bool) (w v s r : ℕ) → (cr ≡ true → w ≡ v)
      → sum_over (risen t) (any_changes rd cr mk cd w s r) ≤ cond cr (cond (leb v t) z 0) 0 + cond mk (cond (leb s t) z 0) 0
  unfolding sum_over
  listed-under true true mk true w v s r h = let e : w ≡ v = h refl in rw e (omega (arith, cond-zero (leb r t)))
  listed-under true true mk false w v s r h = omega (arith, cond-zero (leb s t))
  listed-under true false mk true w v s r h = omega (arith, cond-zero (leb r t))
  listed-under true false mk false w v s r h = omega arith
  listed-under false cr true true w v s r h = omega arith
  listed-under false cr true false w v s r h = omega arith
  listed-under false cr false cd w v s r h = omega arith

  listed-elsewhere : (rd cr mk cd : Bool) (w s r : ℕ) → cd ≡ false → sum_over (risen t) (any_changes rd cr mk cd w s r) ≡ 0
  unfolding sum_over
  listed-elsewhere rd cr mk true w s r h = clash refl h
  listed-elsewhere true true mk false w s r h = omega (arith, cond-zero (leb s t))
  listed-elsewhere true false mk false w s r h = refl
  listed-elsewhere false cr true false w s r h = refl
  listed-elsewhere false cr false false w s r h = refl

part : (b c : Bool) (z : ℕ) → cond b (cond c z 0) 0 ≤ cond b z 0
part true true z = omega arith
part true false z = omega arith
part false c z = omega arith

no_part : (b c : Bool) (z : ℕ) → (b ≡ true → c ≡ false) → cond b (cond c z 0) 0 ≡ 0
no_part true true z h = clash refl (h refl)
no_part true false z h = refl
no_part false c z h = refl

work-kept : (t z : ℕ) (b : Bool) (s r : ℕ) → s ≤ r
    → cond (covers (cond b (during s r) never) t) z 0 + sum_over (fallen t) (cond b (rise s z ∷ fall r z ∷ []) []) ≡ sum_over (risen t) (cond b (rise s z ∷ fall r z ∷ []) [])
unfolding sum_over
work-kept t z true s r l = omega (arith, ends_at s r t z l, cond-zero (leb r t), cond-zero (leb s t))
work-kept t z false s r l = refl

-- what rises by t of a task's working memory
work-rises : (t z : ℕ) (b : Bool) (s r : ℕ) → sum_over (risen t) (cond b (rise s z ∷ fall r z ∷ []) []) ≤ cond (leb s t) z 0
unfolding sum_over
work-rises t z true s r = omega (arith, cond-zero (leb r t))
work-rises t z false s r = omega arith

no-sum : {A : Type 0} (f : A → ℕ) → sum_over f [] ≡ 0
unfolding sum_over
no-sum f = refl

module _ (I : Instance) (W : WellFormed I) (n : ℕ) (Q : Partial) (S : Sound I n Q) (L : WithinLimits I Q.schedule) (i : ℕ) (c : Colour) (s : ℕ) (T : Trial aware I Q i c s) where
  abbrev P : Schedule
  P = Q.schedule

  abbrev P' : Schedule
  P' = (assign I Q i c s).schedule

  A : Adds I P P' i c s
  A = added I W n Q S aware i c s T

  ri : ready I P i ≡ true
  ri = T.is_ready

  -- a file that is read has arrived by the start
  arrives : (k : ℕ) → k < file_count I → reads I i k ≡ true → arrival I P i c k ≤ s
  unfolding input_start
  arrives k l e = omega (arith, start-input I W n Q S aware i c s T, where-bound (file_count I) (reads I i) (arrival I P i c) k l e)

  module _ (d : Colour) (t k : ℕ) (lk : k < file_count I) where
    abbrev z : ℕ
    z = size_at I k

    abbrev xs : List Change
    xs = file_changes I P i c s d k

    abbrev m : Run
    m = maker_run I P k

    abbrev Kept : Type 0
    Kept = KeptBy t z (hold_of I P d k) (hold_of I P' d k) xs

    module _ (e : (file_at I k).reader ≡ i) where
      re : reads I i k ≡ true
      re = eq-eqb _ _ e

      pm : is_placed m ≡ true
      pm = ready-makers I P i ri k lk e

      abbrev cr : Bool
      cr = not (same_colour (colour_of I m) c)

      cr-is : crossing I P i c k ≡ cr
      cr-is = rw re

      before : hold_of I P d k ≡ open_hold (same_colour (colour_of I m) d) m.start
      before = hold-open I (file_at I k) m (reader_run I P k) (move_at P k) d pm (rw e (ready-unplaced I P i ri))

      after : hold_of I P' d k ≡ closed_hold cr (same_colour (colour_of I m) d) m.start (move_at P' k) (move_at P' k + move_time_at I k) (release_on I i c s)
      after =
          let o = W.ordered k lk in
          let em : maker_run I P' k ≡ m = A.other (file_at I k).maker (λ q. omega arith) in
          let er : reader_run I P' k ≡ A.run = ap (run_at P') e ∙ A.here in
          rw (em, er) (hold-closed I (file_at I k) m A.run (move_at P' k) d pm A.placed ∙ rw (A.colour, A.start, e))

      -- it moves at the start minus its move time, and so arrives at the start
      moves-at : cr ≡ true → move_at P' k ≡ s - move_time_at I k
      moves-at y = A.move k lk ∙ rw (cr-is ∙ y)

      time : finish_of I (file_at I k).maker m + cond cr (move_time_at I k) 0 ≤ s
      time = rw cr-is at (arrives k lk re)

      time-moved : cr ≡ true → finish_of I (file_at I k).maker m + move_time_at I k ≤ s
      time-moved y = rw y at time

      arrives_at : cr ≡ true → move_at P' k + move_time_at I k ≡ s
      arrives_at y = omega (arith, moves-at y, time-moved y)

      listed : xs ≡ read_changes (colour_of I m) c d (move_at P' k) (move_at P' k + move_time_at I k) (release_on I i c s) z
      listed = split cr
          (λ y.
          let p = moves-at y in
          let q = arrives_at y in
          rw (re, y, q, p))
          (λ y. rw (re, y))

      kept_read : Kept
      kept_read = kept_by t z _ _ _ _ _ _ before after listed
          (closing t z (colour_of I m) c d m.start (move_at P' k) (move_at P' k + move_time_at I k) (release_on I i c s)
          (omega (arith, time))
          (λ y. omega (arith, arrives_at y, time-moved y))
          (λ y. omega (arith, arrives_at y)))

    module _ (e : (file_at I k).maker ≡ i) where
      reader-other : (file_at I k).reader ≢ i
      reader-other q = let o = W.ordered k lk in omega arith

      unmade : hold_of I P d k ≡ never
      unmade = hold-none I (file_at I k) m (reader_run I P k) (move_at P k) d (rw e (ready-unplaced I P i ri))

      unread : is_placed (reader_run I P k) ≡ false
      unread = split _ (λ y. clash (S.makers k lk y) (rw e (ready-unplaced I P i ri))) (λ y. y)

      opened : hold_of I P' d k ≡ open_hold (same_colour c d) s
      opened =
          let er : reader_run I P' k ≡ reader_run I P k = A.other (file_at I k).reader reader-other in
          let em : maker_run I P' k ≡ A.run = ap (run_at P') e ∙ A.here in
          rw (em, er) (hold-open I (file_at I k) A.run (reader_run I P k) (move_at P' k) d A.placed unread ∙ rw (A.colour, A.start))

      made : xs ≡ cond (same_colour c d) (rise s z ∷ []) []
      made = rw (ne_eqb (file_at I k).reader i reader-other, eq-eqb (file_at I k).maker i e)

      kept-made : Kept
      kept-made = kept_by t z _ _ _ _ _ _ unmade opened made (opening t z c d s)

    module _ (u : (file_at I k).reader ≢ i) (v : (file_at I k).maker ≢ i) where
      same : hold_of I P' d k ≡ hold_of I P d k
      same =
          let em : maker_run I P' k ≡ m = A.other _ v in
          let er : reader_run I P' k ≡ reader_run I P k = A.other _ u in
          let ev : move_at P' k ≡ move_at P k = A.move k lk ∙ rw (ne_eqb _ _ u) in
          rw (em, er, ev)

      none-listed : xs ≡ []
      none-listed = rw (ne_eqb (file_at I k).reader i u, ne_eqb (file_at I k).maker i v)

      kept-else : Kept
      unfolding sum_over
      kept-else = kept_by t z _ (hold_of I P d k) _ _ _ _ refl same none-listed refl

    kept : Kept
    kept = elim (ℕ_discrete (file_at I k).reader i) [
      | yes e ↦ kept_read e
      | no u ↦ elim (ℕ_discrete (file_at I k).maker i) [
        | yes e ↦ kept-made e
        | no v ↦ kept-else u v
      ]
    ]

    abbrev Ended : Type 0
    Ended = EndsBy (hold_of I P d k) (hold_of I P' d k) xs

    ended-else : (u : (file_at I k).reader ≢ i) (v : (file_at I k).maker ≢ i) → Ended
    unfolding sum_over
    ended-else u v = ends_by _ (hold_of I P d k) _ _ _ _ refl (same u v) (none-listed u v) (omega arith)

    ended : Ended
    ended = elim (ℕ_discrete (file_at I k).reader i) [
      | yes e ↦ ends_by _ _ _ _ _ _ (before e) (after e) (listed e)
          (closing-ends z (colour_of I m) c d m.start (move_at P' k) (move_at P' k + move_time_at I k) (release_on I i c s))
      | no u ↦ elim (ℕ_discrete (file_at I k).maker i) [
        | yes e ↦ ends_by _ _ _ _ _ _ (unmade e) (opened e) (made e) (opening-ends z c d s)
        | no v ↦ ended-else u v
      ]
    ]

    amounts : sum_over amount_of xs ≤ 2 * z
    amounts = any-amounts t z (reads I i k) (crossing I P i c k) (makes I i k) (same_colour c d) _ s (release_on I i c s)

    -- what rises by t: the file crosses and its move has begun, or it is made and the run has begun
    rises-under : sum_over (risen t) xs ≤ cond (crossing I P i c k) (cond (leb (s - move_time_at I k) t) z 0) 0 + cond (makes I i k) (cond (leb s t) z 0) 0
    rises-under = listed-under t z (reads I i k) (crossing I P i c k) (makes I i k) (same_colour c d) _ (s - move_time_at I k) s (release_on I i c s) (λ y. rw y)

    rises-here : same_colour c d ≡ false → sum_over (risen t) xs ≡ 0
    rises-here y = listed-elsewhere t z (reads I i k) (crossing I P i c k) (makes I i k) (same_colour c d) _ s (release_on I i c s) y

  -- ---- the totals

  run-works : (d : Colour) → work_by I i A.run d ≡ cond (same_colour c d && ltb 0 (work_at I i)) (during s (release_on I i c s)) never
  unfolding work_by
  run-works d = rw (A.placed, A.colour, A.start)

  module _ (d : Colour) where
    abbrev changed : List Change
    changed = placing_changes I P i c s d

    sum-placed : (f : Change → ℕ) (m : ℕ) → sum_over f (files_changes I P i c s d m) ≡ sum_below m (λ k. sum_over f (file_changes I P i c s d k))
    unfolding files_changes sum_below
    sum-placed f zero = no-sum f
    sum-placed f (suc m) = omega (arith, sum-append f (files_changes I P i c s d m) (file_changes I P i c s d m), sum-placed f m)

    pub changed-sum : (f : Change → ℕ) → sum_over f changed ≡ sum_below (file_count I) (λ k. sum_over f (file_changes I P i c s d k)) + sum_over f (work_changes I i c s d)
    unfolding placing_changes
    changed-sum f = omega (arith, sum-append f (files_changes I P i c s d (file_count I)) (work_changes I i c s d), sum-placed f (file_count I))

    -- the working memory of task i, and no other, changes
    works : (t : ℕ) → cond (is_work_held I P' d t i) (work_at I i) 0 + sum_over (fallen t) (work_changes I i c s d) ≡ sum_over (risen t) (work_changes I i c s d)
    works t =
        let h = A.here in
        let e : work_of I P' d i ≡ work_by I i A.run d = rw h in
        let w : work_by I i A.run d ≡ cond (same_colour c d && ltb 0 (work_at I i)) (during s (release_on I i c s)) never = run-works d in
        rw (e, w) (work-kept t (work_at I i) (same_colour c d && ltb 0 (work_at I i)) s (release_on I i c s) (omega arith))

    works-total : (t : ℕ) → work_held I P' d t + sum_over (fallen t) (work_changes I i c s d) ≡ work_held I P d t + sum_over (risen t) (work_changes I i c s d)
    unfolding work_held
    works-total t =
        let g : ℕ → ℕ = λ j. cond (is_work_held I P d t j) (work_at I j) 0 in
        let g' : ℕ → ℕ = λ j. cond (is_work_held I P' d t j) (work_at I j) 0 in
        let z : g i ≡ 0 = rw (work-unplaced I i (run_at P i) d (ready-unplaced I P i ri)) in
        omega (
          arith,
          works t,
          sum-changed (task_count I) g g' i (g' i) T.exists (λ j n. ap (λ r. cond (covers (work_by I j r d) t) (work_at I j) 0) (A.other j n)) (omega arith),
        )

    total : (t : ℕ) → held I P' d t + sum_over (fallen t) changed ≡ held I P d t + sum_over (risen t) changed
    unfolding held files_held
    total t =
        let n = file_count I in
        let g : ℕ → ℕ = λ k. cond (is_held I P' d t k) (size_at I k) 0 in
        let h : ℕ → ℕ = λ k. cond (is_held I P d t k) (size_at I k) 0 in
        let x : ℕ → ℕ = λ k. sum_over (fallen t) (file_changes I P i c s d k) in
        let y : ℕ → ℕ = λ k. sum_over (risen t) (file_changes I P i c s d k) in
        omega (
          arith,
          changed-sum (fallen t),
          changed-sum (risen t),
          works-total t,
          sum-add n g x,
          sum-add n h y,
          sum-cong n (λ k. g k + x k) (λ k. h k + y k) (λ k l. kept d t k l),
        )

    works-ended : sum_below (task_count I) (λ j. ends (work_of I P d j)) + sum_over counted (work_changes I i c s d) ≡ sum_below (task_count I) (λ j. ends (work_of I P' d j))
    works-ended =
        let g : ℕ → ℕ = λ j. ends (work_of I P d j) in
        let g' : ℕ → ℕ = λ j. ends (work_of I P' d j) in
        let z : g i ≡ 0 = rw (work-unplaced I i (run_at P i) d (ready-unplaced I P i ri)) in
        let h = A.here in
        let e : work_of I P' d i ≡ work_by I i A.run d = rw h in
        let w : work_by I i A.run d ≡ cond (same_colour c d && ltb 0 (work_at I i)) (during s (release_on I i c s)) never = run-works d in
        let v : g' i ≡ sum_over counted (work_changes I i c s d) = ap ends (e ∙ w) ∙ work-ends (same_colour c d && ltb 0 (work_at I i)) s (release_on I i c s) (work_at I i) in
        omega (
          arith,
          sum-changed (task_count I) g g' i (sum_over counted (work_changes I i c s d)) T.exists (λ j n. ap (λ r. ends (work_by I j r d)) (A.other j n)) (omega arith),
        )

    all-ended : ends_in I P d + sum_over counted changed ≤ ends_in I P' d
    all-ended =
        let n = file_count I in
        let g : ℕ → ℕ = λ k. ends (hold_of I P d k) in
        let g' : ℕ → ℕ = λ k. ends (hold_of I P' d k) in
        let x : ℕ → ℕ = λ k. sum_over counted (file_changes I P i c s d k) in
        omega (arith, changed-sum counted, works-ended, sum-add n g x, sum_mono n (λ k. g k + x k) g' (λ k l. ended d 0 k l))

    all-amounts : sum_over amount_of changed ≤ 2 * (max_files * file_sizes.most + work_sizes.most)
    all-amounts = omega (
      arith,
      changed-sum amount_of,
      work-amounts (same_colour c d && ltb 0 (work_at I i)) s (release_on I i c s) (work_at I i),
      sum-sizes (file_count I) (λ k. sum_over amount_of (file_changes I P i c s d k)) (λ k l. omega (arith, amounts d 0 k l, (W.sizes k l).most)),
      W.files,
      W.work i T.exists,
    )

  -- ---- there is room for what rises

  abbrev of_crossing : ℕ → ℕ
  of_crossing k = cond (crossing I P i c k) (size_at I k) 0

  abbrev of_made : ℕ → ℕ
  of_made k = cond (makes I i k) (size_at I k) 0

  abbrev gains : Colour → ℕ → ℕ
  gains d t = sum_below (file_count I) (λ k. sum_over (risen t) (file_changes I P i c s d k))

  gains-both : (d : Colour) (t : ℕ) → gains d t ≤ crossing_size I P i c + output_size I i
  unfolding crossing_size output_size
  gains-both d t = omega (
    arith,
    sum_mono (file_count I) (λ k. sum_over (risen t) (file_changes I P i c s d k)) (λ k. of_crossing k + of_made k)
        (λ k l. omega (arith, rises-under d t k l, part (crossing I P i c k) (leb (s - move_time_at I k) t) (size_at I k), part (makes I i k) (leb s t) (size_at I k))),
    sum-add (file_count I) of_crossing of_made,
  )

  gains-moving : (d : Colour) (t : ℕ) → t < s → gains d t ≤ crossing_size I P i c
  unfolding crossing_size
  gains-moving d t l = sum_mono (file_count I) (λ k. sum_over (risen t) (file_changes I P i c s d k)) of_crossing
      (λ k m. omega (arith, rises-under d t k m, part (crossing I P i c k) (leb (s - move_time_at I k) t) (size_at I k), no_part (makes I i k) (leb s t) (size_at I k) (λ _. lt-leb s t l)))

  gains-none : (d : Colour) (t : ℕ) → t + crossing_time I P i c < s → gains d t ≡ 0
  unfolding crossing_time
  gains-none d t l = sum-zero (file_count I) (λ k. sum_over (risen t) (file_changes I P i c s d k)) (λ k m. omega (
    arith,
    rises-under d t k m,
    no_part (crossing I P i c k) (leb (s - move_time_at I k) t) (size_at I k)
        (λ y. lt-leb (s - move_time_at I k) t (omega (arith, where-bound (file_count I) (crossing I P i c) (move_time_at I) k m y))),
    no_part (makes I i k) (leb s t) (size_at I k) (λ _. lt-leb s t (omega arith)),
  ))

  gains-elsewhere : (d : Colour) (t : ℕ) → same_colour c d ≡ false → gains d t ≡ 0
  gains-elsewhere d t y = sum-zero (file_count I) (λ k. sum_over (risen t) (file_changes I P i c s d k)) (λ k m. rises-here d t k m y)

  abbrev worked : Colour → ℕ → ℕ
  worked d t = sum_over (risen t) (work_changes I i c s d)

  worked-under : (d : Colour) (t : ℕ) → worked d t ≤ cond (leb s t) (work_at I i) 0
  worked-under d t = work-rises t (work_at I i) (same_colour c d && ltb 0 (work_at I i)) s (release_on I i c s)

  worked-most : (d : Colour) (t : ℕ) → worked d t ≤ work_at I i
  worked-most d t = omega (arith, worked-under d t, cond-under (leb s t) (work_at I i) (work_at I i) (λ _. omega arith))

  worked-none : (d : Colour) (t : ℕ) → t < s → worked d t ≡ 0
  worked-none d t l = let e = lt-leb s t l in let h : worked d t ≤ 0 = rw e at (worked-under d t) in omega arith

  worked-elsewhere : (d : Colour) (t : ℕ) → same_colour c d ≡ false → worked d t ≡ 0
  worked-elsewhere d t y = rw y (no-sum (risen t))

  gains-fit : (t : ℕ) → held I P c t + (gains c t + worked c t) ≤ limit_of I c
  gains-fit t =
      let q = st I W n Q S aware i c s T in
      let f = frees I P i c q.memory q.asked in
      let run : Free I P c (crossing_size I P i c + output_size I i + work_at I i) f.running = ((free_from_law I P c _ f.running).0 f.free-running).holds in
      let mov : Free I P c (crossing_size I P i c) f.moving = ((free_from_law I P c _ f.moving).0 f.free-moving).holds in
      let start = q.start in
      let greater = f.greater in
      elim (dec_le s t) [
        | yes l ↦ omega (arith, gains-both c t, worked-most c t, run t (omega arith))
        | no l ↦ elim (dec_le f.moving t) [
          | yes p ↦ omega (arith, gains-moving c t (omega arith), worked-none c t (omega arith), mov t p)
          | no p ↦ omega (arith, gains-none c t (omega arith), worked-none c t (omega arith), L c t)
        ]
      ]

  room : (d : Colour) (t : ℕ) → sum_over (risen t) (changed d) ≤ free_at I P d t
  unfolding free_at
  room d t = split (same_colour c d)
      (λ y. rw (same-colour c d y) (omega (arith, changed-sum c (risen t), gains-fit t)))
      (λ y. omega (arith, changed-sum d (risen t), gains-elsewhere d t y, worked-elsewhere d t y))

  free-after : (d : Colour) (t : ℕ) → free_after_all (changed d) (free_at I P d) t ≡ free_at I P' d t
  unfolding free_at
  free-after d t = omega (arith, all_after (changed d) (free_at I P d) (room d) t, total d t, room d t, L d t, assign-within I W n Q S i c s T L d t)

  pub stairs-kept : (d : Colour) → steps_after_all (changed d) (stairs I P d) ≡ stairs I P' d
  stairs-kept d = staircase_unique (free_at I P' d) _ _
      (staircase-same (free_after_all (changed d) (free_at I P d)) (free_at I P' d) (steps_after_all (changed d) (stairs I P d)) (free-after d)
      (stairs-after (changed d) (free_at I P d) (stairs I P d) (stairs-are I P d) (room d)))
      (stairs-are I P' d)

pub stairs_kept : StairsKept
stairs_kept I W Q p i c s T d = let r = placed-sound I W p in stairs-kept I W r.0 Q r.1 r.2 i c s T d

-- while its changes are made there is room for each in memory d, and in a list of as many pairs as are allowed
pub placing-room : (I : Instance) → WellFormed I → (Q : Partial) → Placed I Q → (i : ℕ) (c : Colour) (s : ℕ) → Trial aware I Q i c s → (d : Colour) (t : ℕ)
    → sum_over (risen t) (placing_changes I Q.schedule i c s d) ≤ free_at I Q.schedule d t
placing-room I W Q p i c s T d t = let r = placed-sound I W p in room I W r.0 Q r.1 r.2 i c s T d t

pub placing-steps : (I : Instance) → WellFormed I → (Q : Partial) → Placed I Q → (i : ℕ) (c : Colour) (s : ℕ) → Trial aware I Q i c s → (d : Colour)
    → length (stairs I Q.schedule d) + sum_over counted (placing_changes I Q.schedule i c s d) ≤ max_pairs
placing-steps I W Q p i c s T d =
    let r = placed-sound I W p in
    omega (
      arith,
      stairs-ends I Q.schedule d,
      all-ended I W r.0 Q r.1 r.2 i c s T d,
      ends-short I (assign I Q i c s).schedule d,
      W.files,
      W.tasks.most,
    )

-- what they come to
pub placing-amounts : (I : Instance) → WellFormed I → (Q : Partial) → Placed I Q → (i : ℕ) (c : Colour) (s : ℕ) → Trial aware I Q i c s → (d : Colour)
    → sum_over amount_of (placing_changes I Q.schedule i c s d) ≤ 2 * (max_files * file_sizes.most + work_sizes.most)
placing-amounts I W Q p i c s T d = let r = placed-sound I W p in all-amounts I W r.0 Q r.1 r.2 i c s T d
