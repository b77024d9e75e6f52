-- The steps after a change.
use Prim.Native.Nat.{ℕ, zero, suc, ◌+◌, ◌-◌, ◌≤◌, ◌<◌}
use mathlib.Core.Bool.{true, false}
use mathlib.Core.List.{List, [], ◌∷◌, ◌++◌, map}
use mathlib.Core.Path.{◌≡◌, refl, sym, ◌∙◌, ap}
use Rattle.std.specs.Prelude.{◌≢◌}
use native.Mathlib.Omega.{arith}
use lib.Dec.{ltb, eqb}
use lib.ListN.{length, get_or, take, drop}
use borrow.Author.Tests.{lt-ltb, le-ltb, eq-eqb, ne_eqb}
use borrow.Rule.Slice.PartMut.{post_of}
use Rattle.std.specs.List.{refill, insert, remove}
use Rattle.std.proofs.lemmas.List.{map-append, take-map, drop-map, drop_more, take_rest, take_at, drop_at, take_all, get_or-drop, get_or-take, get_or_append_left, get_or-append-add, get_or_at, drop-drop, length-take-le, length-drop, length-append, length-map}
use Rattle.rules.proofs.Tests.{split}
use Rattle.rules.specs.Changes.{Change}
use Rattle.rules.specs.Staircase.{Step as Pair, step_at, free_by, steps_shifted, step_if_new, steps_behind, steps_after}
use Rattle.staircase.specs.declared.Step.{Step}
use Rattle.staircase.specs.Steps.{as_step, as_steps, no_step, with_change, Fit, Here, Position, max_free}
use Rattle.staircase.proofs.ReadLaws.{tick-is, free-is}

-- ---- the rules' steps, in front of the change's tick and from there on

module _ (x : Change) where
  -- the amount free just before step p of ss, where `v` is free before the first
  before : ℕ → List Pair → ℕ → ℕ
  before v ss zero = v
  before v ss (suc p) = (step_at ss p).free

  before-next : (v : ℕ) (s : Pair) (ss : List Pair) (p : ℕ) → before s.free ss p ≡ before v (s ∷ ss) (suc p)
  unfolding before
  before-next v s ss zero = refl
  before-next v s ss (suc p) = refl

  walk : (p v : ℕ) (ss : List Pair) → p ≤ length ss → ((k : ℕ) → k < p → (step_at ss k).tick < x.tick)
      → steps_behind x v ss ≡ take p ss ++ steps_behind x (before v ss p) (drop p ss)
  unfolding steps_behind before
  walk zero v ss l h = refl
  walk (suc p) v [] l h = absurd (omega arith)
  walk (suc p) v (s ∷ ss) l h =
      let rest : steps_behind x s.free ss ≡ take p ss ++ steps_behind x (before s.free ss p) (drop p ss) =
      walk p s.free ss (omega arith) (λ k m. h (suc k) (omega arith)) in
      rw (lt-ltb s.tick x.tick (h 0 (omega arith)), rest, before-next v s ss p)

  -- the steps before the change's tick stay
  pub front : (p : ℕ) (xs : List Pair) → 0 < p → p ≤ length xs → ((k : ℕ) → k < p → (step_at xs k).tick < x.tick)
      → steps_after x xs ≡ take p xs ++ steps_behind x (step_at xs (p - 1)).free (drop p xs)
  unfolding steps_after before
  front zero xs h l low = absurd (omega arith)
  front (suc p) [] h l low = absurd (omega arith)
  front (suc p) (s ∷ ss) h l low =
      let q : eqb x.tick 0 ≡ false = ne_eqb x.tick 0 (λ e. omega (arith, low 0 (omega arith))) in
      let rest : steps_behind x s.free ss ≡ take p ss ++ steps_behind x (before s.free ss p) (drop p ss) =
      walk p s.free ss (omega arith) (λ k m. low (suc k) (omega arith)) in
      let e : suc p - 1 ≡ p = omega arith in
      rw (q, rest, e, before-last s ss p)
    where
      before-last : (s : Pair) (ss : List Pair) (p : ℕ) → before s.free ss p ≡ (step_at (s ∷ ss) p).free
      before-last s ss zero = refl
      before-last s ss (suc p) = refl

  -- at tick 0 every step changes
  pub all_change : (xs : List Pair) → x.tick ≡ 0 → steps_after x xs ≡ steps_shifted x xs
  unfolding steps_after steps_shifted
  all_change [] e = refl
  all_change (s ∷ ss) e = rw (eq-eqb x.tick 0 e)

  -- where a step stands at the tick, and where none does
  behind-at : (v : ℕ) (s : Pair) (ss : List Pair) → s.tick ≡ x.tick
      → steps_behind x v (s ∷ ss) ≡ step_if_new v (record { tick = s.tick; free = free_by x s.free }) (steps_shifted x ss)
  unfolding steps_behind
  behind-at v s ss e = rw (le-ltb s.tick x.tick (omega arith), eq-eqb s.tick x.tick e)

  behind-new : (v : ℕ) (ss : List Pair) → (0 < length ss → x.tick < (step_at ss 0).tick)
      → steps_behind x v ss ≡ step_if_new v (record { tick = x.tick; free = free_by x v }) (steps_shifted x ss)
  unfolding steps_behind steps_shifted
  behind-new v [] l = refl
  behind-new v (s ∷ ss) l =
      let h : x.tick < s.tick = l (omega arith) in
      rw (le-ltb s.tick x.tick (omega arith), ne_eqb s.tick x.tick (λ e. omega arith))

-- a change adds a step at most
count_if : (v : ℕ) (s : Pair) (ss : List Pair) → length (step_if_new v s ss) ≤ length ss + 1
count_if v s ss = split (eqb v s.free) (λ e. rw e (omega arith)) (λ e. rw e (omega arith))

count_shifted : (x : Change) (ss : List Pair) → length (steps_shifted x ss) ≡ length ss
unfolding steps_shifted
count_shifted x [] = refl
count_shifted x (s ∷ ss) = ap suc (count_shifted x ss)

count_behind : (x : Change) (v : ℕ) (ss : List Pair) → length (steps_behind x v ss) ≤ length ss + 1
unfolding steps_behind steps_shifted
count_behind x v [] = count_if v (record { tick = x.tick; free = free_by x v }) []
count_behind x v (s ∷ ss) = split (ltb s.tick x.tick)
    (λ e. rw e (omega (arith, count_behind x s.free ss)))
    (λ e. split (eqb s.tick x.tick)
    (λ d. rw (e, d) (omega (arith, count_if v (record { tick = s.tick; free = free_by x s.free }) (steps_shifted x ss), count_shifted x ss)))
    (λ d. rw (e, d) (omega (arith, count_if v (record { tick = x.tick; free = free_by x v }) (steps_shifted x (s ∷ ss)), count_shifted x (s ∷ ss)))))

pub after_count : (x : Change) (ss : List Pair) → length (steps_after x ss) ≤ length ss + 1
unfolding steps_after
after_count x [] = omega arith
after_count x (s ∷ ss) = split (eqb x.tick 0)
    (λ e. rw e (omega (arith, count_shifted x (s ∷ ss))))
    (λ e. rw e (omega (arith, count_behind x s.free ss)))

-- ---- the steps that the code makes

-- a part lent and changed, put back
pub put_back : (p : ℕ) (xs ys : List Step) → p ≤ length xs → length ys ≡ length xs - p
    → refill (length xs) xs (take p xs ++ (ys ++ post_of p (length xs - p) xs)) ≡ take p xs ++ ys
put_back p xs ys l e =
    let none : post_of p (length xs - p) xs ≡ [] = drop_none (length xs - p) (drop p xs) (omega (arith, length-drop p xs)) in
    let size : length (take p xs ++ ys) ≡ length xs = omega (arith, length-append (take p xs) ys, length-take-le p xs l) in
    rw (none, append-nil ys, size, drop_none (length xs) xs (omega arith), append-nil (take p xs ++ ys)) (take_all (length xs) (take p xs ++ ys) (omega arith))
  where
    drop_none : (n : ℕ) (zs : List Step) → length zs ≤ n → drop n zs ≡ []
    drop_none zero [] h = refl
    drop_none zero (z ∷ zs) h = absurd (omega arith)
    drop_none (suc n) [] h = refl
    drop_none (suc n) (z ∷ zs) h = drop_none n zs (omega arith)

    append-nil : (zs : List Step) → zs ++ [] ≡ zs
    append-nil [] = refl
    append-nil (z ∷ zs) = ap (λ ws. z ∷ ws) (append-nil zs)

shifted : (x : Change) (xs : List Step) → as_steps (map (with_change x.amount x.rises) xs) ≡ steps_shifted x (as_steps xs)
unfolding steps_shifted
shifted x [] = refl
shifted x (s ∷ ss) = ap (λ zs. record { tick = s.tick; free = free_by x s.free } ∷ zs) (shifted x ss)

-- a step that a loop has still to change
pub unchanged : (g : Step → Step) (xs : List Step) {ys : List Step} (i : ℕ) → ys ≡ map g (take i xs) ++ drop i xs → i ≤ length xs
    → get_or ys i no_step ≡ get_or xs i no_step
unchanged g xs i e l =
    let n : length (map g (take i xs)) ≡ i = length-map (take i xs) g ∙ length-take-le i xs l in
    let z : length (map g (take i xs)) + 0 ≡ i = omega (arith, n) in
    let y : i + 0 ≡ i = omega arith in
    rw e (rw z at (get_or-append-add (map g (take i xs)) (drop i xs) 0 no_step) ∙ get_or-drop i xs 0 no_step ∙ ap (λ k. get_or xs k no_step) y)

-- those from p on changed
abbrev pub changed_from : Change → ℕ → List Step → List Step
changed_from x p xs = take p xs ++ map (with_change x.amount x.rises) (drop p xs)

pub changed_as : (x : Change) (p : ℕ) (xs : List Step) → as_steps (changed_from x p xs) ≡ take p (as_steps xs) ++ steps_shifted x (drop p (as_steps xs))
changed_as x p xs = rw (map-append as_step (take p xs) (map (with_change x.amount x.rises) (drop p xs)), take-map as_step p xs, drop-map as_step p xs, shifted x (drop p xs))

-- ---- the change x of the steps xs, with p behind the last step before its tick

module _ {x : Change} {p : ℕ} {xs : List Step} (H : Here x p xs) where
  abbrev ss : List Pair
  ss = as_steps xs

  abbrev at : Position ss x.tick p
  at = H.position

  size : length ss ≡ length xs
  size = length-map xs as_step

  pub within : p ≤ length xs
  within = omega (arith, at.within, size)

  low_by : (d i : ℕ) → suc i + d ≡ p → (step_at ss i).tick < x.tick
  low_by zero i e = at.before i (omega arith)
  low_by (suc d) i e = omega (arith, H.ascending.up i (omega (arith, at.within)), low_by d (suc i) (omega arith))

  low : (i : ℕ) → i < p → (step_at ss i).tick < x.tick
  low i l = low_by (p - suc i) i (omega arith)

  -- what the arithmetic asks
  pub fit : Fit x.amount x.rises (drop p xs)
  fit = record {
    most = λ k l. rw (get_or-drop p xs k no_step) (omega (arith, H.fits.most (p + k) (omega (arith, length-drop p xs, size)), free-is xs (p + k)));
    enough = λ e k l. rw (get_or-drop p xs k no_step)
        (let m : p + k < length ss = omega (arith, length-drop p xs, size) in
        omega (arith, free-is xs (p + k), H.fits.enough e (p + k) m (λ h. omega (arith, at.after (p + k) (omega arith) m, H.ascending.up (p + k) h))));
  }

  pub fit_lent : {now : List Step} → now ≡ xs → Fit x.amount x.rises (take (length now - p) (drop p now))
  fit_lent e = rw (e, take_rest xs p) fit

  -- what a loan of the steps from p on leaves, with all of them changed
  pub lent : {now new : List Step} → now ≡ xs → new ≡ map (with_change x.amount x.rises) (take (length now - p) (drop p now))
      → refill (length xs) xs (take p now ++ (new ++ post_of p (length now - p) now)) ≡ changed_from x p xs
  lent {now} {new} e f =
      let d : new ≡ map (with_change x.amount x.rises) (drop p xs) = rw (e, take_rest xs p) at f in
      rw (e, d) (put_back p xs (map (with_change x.amount x.rises) (drop p xs)) within
      (length-map (drop p xs) (with_change x.amount x.rises) ∙ length-drop p xs))

  -- at tick 0
  pub from_first : p ≡ 0 → as_steps (changed_from x p xs) ≡ steps_after x ss
  from_first e =
      let z : x.tick ≡ 0 = omega (arith, at.after 0 (omega arith) H.ascending.one, H.ascending.first) in
      rw (e, changed_as x 0 xs, all_change x ss z)

  abbrev T : List Step
  T = changed_from x p xs

  g : Step → Step
  g = with_change x.amount x.rises

  cut : length (take p xs) ≡ p
  cut = length-take-le p xs within

  pub still : length T ≡ length xs
  still = omega (
    arith,
    within,
    length-append (take p xs) (map (with_change x.amount x.rises) (drop p xs)),
    cut,
    length-map (drop p xs) (with_change x.amount x.rises),
    length-drop p xs,
  )

  head : take p T ≡ take p xs
  head = take_at (take p xs) (map (with_change x.amount x.rises) (drop p xs)) p cut

  tail : drop p T ≡ map (with_change x.amount x.rises) (drop p xs)
  tail = drop_at (take p xs) (map (with_change x.amount x.rises) (drop p xs)) p cut

  split-at : p < length xs → drop p xs ≡ get_or xs p no_step ∷ drop (p + 1) xs
  split-at = drop_more xs p no_step

  here_is : p < length xs → get_or T p no_step ≡ with_change x.amount x.rises (get_or xs p no_step)
  here_is l = rw (split-at l) (get_or_at (take p xs) (with_change x.amount x.rises (get_or xs p no_step)) (map (with_change x.amount x.rises) (drop (p + 1) xs)) no_step p cut)

  module _ (later : 0 < p) where
    pub before_is : get_or T (p - 1) no_step ≡ get_or xs (p - 1) no_step
    before_is = get_or_append_left (take p xs) (map (with_change x.amount x.rises) (drop p xs)) no_step (p - 1) (omega (arith, cut))
        ∙ get_or-take p xs (p - 1) no_step (omega arith)

    abbrev v : ℕ
    v = (get_or xs (p - 1) no_step).free

    all_after : steps_after x ss ≡ take p ss ++ steps_behind x v (drop p ss)
    all_after = rw (← free-is xs (p - 1)) (front x p ss later at.within low)

    -- where a step stands at the tick
    module _ (q : (p < length T) × ((get_or T p no_step).tick ≡ x.tick)) where
      pub stands : p < length xs
      stands = omega (arith, q.0, still)

      abbrev s : Step
      s = get_or xs p no_step

      abbrev R : List Step
      R = drop (p + 1) xs

      rest : drop p ss ≡ as_step s ∷ as_steps R
      rest = drop-map as_step p xs ∙ ap as_steps (split-at stands)

      e : s.tick ≡ x.tick
      e = sym (ap (λ z. z.tick) (here_is stands)) ∙ q.1

      pub at_equal : (get_or T p no_step).free ≡ (get_or T (p - 1) no_step).free → as_steps (remove T p) ≡ steps_after x ss
      at_equal d =
          let t : eqb v (free_by x s.free) ≡ true = eq-eqb v (free_by x s.free) (sym (ap (λ z. z.free) before_is) ∙ sym d ∙ ap (λ z. z.free) (here_is stands)) in
          let gone : drop (suc p) T ≡ map (with_change x.amount x.rises) R =
          let z : suc p ≡ p + 1 = omega arith in rw (z, ← drop-drop 1 p T, tail, split-at stands) in
          rw (head, gone, map-append as_step (take p xs) (map (with_change x.amount x.rises) R), shifted x R, ← take-map as_step p xs)
          (sym (all_after ∙ ap (λ zs. take p ss ++ steps_behind x v zs) rest ∙ ap (λ zs. take p ss ++ zs) (behind-at x v (as_step s) (as_steps R) e ∙ rw t refl)))

      pub at_differs : ((get_or T p no_step).free ≡ (get_or T (p - 1) no_step).free → ⊥) → as_steps T ≡ steps_after x ss
      unfolding steps_shifted
      at_differs d =
          let t : eqb v (free_by x s.free) ≡ false = ne_eqb v (free_by x s.free)
          (λ y. d (ap (λ z. z.free) (here_is stands) ∙ sym y ∙ sym (ap (λ z. z.free) before_is))) in
          changed_as x p xs ∙ sym (all_after ∙ ap (λ zs. take p ss ++ zs)
          (ap (steps_behind x v) rest ∙ behind-at x v (as_step s) (as_steps R) e ∙ rw t refl ∙ sym (ap (steps_shifted x) rest)))

    -- where none does
    module _ (n : p < length T → (get_or T p no_step).tick ≢ x.tick) where
      differs : p < length xs → (get_or xs p no_step).tick ≢ x.tick
      differs l f = n (omega (arith, still)) (ap (λ z. z.tick) (here_is l) ∙ f)

      past : p < length ss → x.tick < (step_at ss p).tick
      past l = let d = differs (omega (arith, size)) in omega (arith, at.after p (omega arith) l, d, tick-is xs p)

      -- what the arithmetic asks
      pub new_most : v + x.amount ≤ max_free
      new_most = omega (arith, H.fits.most (p - 1) (omega (arith, at.within)), free-is xs (p - 1))

      pub new_enough : x.rises ≡ true → x.amount ≤ v
      new_enough r =
          let z : suc (p - 1) ≡ p = omega arith in
          omega (arith, H.fits.enough r (p - 1) (omega (arith, at.within)) (rw z past), free-is xs (p - 1))

      behind : steps_behind x v (drop p ss) ≡ step_if_new v (record { tick = x.tick; free = free_by x v }) (steps_shifted x (drop p ss))
      behind = behind-new x v (drop p ss) (λ l. first-past (past (omega (arith, length-drop p ss))))
        where
          first-past : x.tick < (step_at ss p).tick → x.tick < (step_at (drop p ss) 0).tick
          first-past h = let z : p + 0 ≡ p = omega arith in rw (get_or-drop p ss 0 (record { tick = 0; free = 0 }), z) h

      pub new_equal : free_by x v ≡ v → as_steps T ≡ steps_after x ss
      new_equal d =
          let t : eqb v (free_by x v) ≡ true = eq-eqb v (free_by x v) (sym d) in
          changed_as x p xs ∙ sym (all_after ∙ ap (λ zs. take p ss ++ zs) (behind ∙ rw t refl))

      pub new_differs : (free_by x v ≡ v → ⊥) → as_steps (insert T p (record { tick = x.tick; free = free_by x v })) ≡ steps_after x ss
      new_differs d =
          let t : eqb v (free_by x v) ≡ false = ne_eqb v (free_by x v) (λ y. d (sym y)) in
          rw (
            head,
            tail,
            map-append as_step (take p xs) (record { tick = x.tick; free = free_by x v } ∷ map (with_change x.amount x.rises) (drop p xs)),
            shifted x (drop p xs),
            ← take-map as_step p xs,
            ← drop-map as_step p xs,
          )
          (sym (all_after ∙ ap (λ zs. take p ss ++ zs) (behind ∙ rw t refl)))
