-- Staircases of any function: staircase_unique, steps_after_law; reading one from the end; the staircase by ticks.
use Prim.Native.Nat.{ℕ, zero, suc, ◌+◌, ◌-◌, ◌≤◌, ◌<◌, min, max, pred}
use mathlib.Core.Bool.{Bool, true, false, cond}
use mathlib.Core.List.{List, [], ◌∷◌, ◌++◌}
use mathlib.Core.Option.{none, some}
use mathlib.Core.Path.{◌≡◌, refl, sym, ◌∙◌, ap}
use mathlib.Core.Logic.{◌↔◌}
use native.Mathlib.Omega.{arith}
use native.Mathlib.Decide.{ℕ_discrete}
use lib.Dec.{leb, ltb, eqb}
use lib.ListN.{length}
use borrow.Author.Tests.{ltb-true, ltb-false, lt-ltb, le-ltb, leb-true, leb-false, le-leb, lt-leb, eqb-true, eqb-false}
use Rattle.rules.specs.Count.{sum_over, first_below, settled_from}
use Rattle.rules.specs.Promises.{First}
use Rattle.rules.specs.Changes.{Change}
use Rattle.rules.specs.Staircase.{Step, step_at, StandsOn, Staircase, steps_up_to, suffices, free_from_steps, free_by, free_after, steps_shifted, step_if_new, steps_behind, steps_after, steps_after_all, StaircaseUnique, StepsAfterLaw}
use Rattle.rules.proofs.Tests.{split, by_order}
use Rattle.rules.proofs.CountLaws.{first-bound, first-before, first_holds, settled-bound, settled-holds, settled_before}
use Rattle.rules.proofs.ChangeLaws.{risen, fallen}

-- ---- step by step

-- f is v from tick a on up to the first of these steps, and then as they say
pub data Goes (f : ℕ → ℕ) : ℕ → ℕ → List Step → Type 0 where
  ends : {a v : ℕ} → ((t : ℕ) → a ≤ t → f t ≡ v) → Goes f a v []
  steps : {a v : ℕ} {s : Step} {ss : List Step} → a < s.tick → (v ≡ s.free → ⊥) → ((t : ℕ) → a ≤ t → t < s.tick → f t ≡ v)
      → Goes f s.tick s.free ss → Goes f a v (s ∷ ss)

module _ (f : ℕ → ℕ) where
  goes-here : {a v : ℕ} {ss : List Step} → Goes f a v ss → f a ≡ v
  goes-here {a = a} (ends h) = h a (omega arith)
  goes-here {a = a} (steps l n h r) = h a (omega arith) l

  goes-unique : {a v w : ℕ} {xs ys : List Step} → v ≡ w → Goes f a v xs → Goes f a w ys → xs ≡ ys
  goes-unique e (ends h) (ends g) = refl
  goes-unique e (ends h) (steps {s = s} l n g r) = absurd (n (omega (arith, h s.tick (omega arith), goes-here r)))
  goes-unique e (steps {s = s} l n g r) (ends h) = absurd (n (omega (arith, h s.tick (omega arith), goes-here r)))
  goes-unique e (steps {s = s} {ss = xs} l n g r) (steps {s = u} {ss = ys} m p h q) =
      let tick : s.tick ≡ u.tick = by_order s.tick u.tick
      (λ b. absurd (n (omega (arith, h s.tick (omega arith) b, goes-here r))))
      (λ b. by_order u.tick s.tick
      (λ d. absurd (p (omega (arith, g u.tick (omega arith) d, goes-here q))))
      (λ d. omega arith)) in
      let free : s.free ≡ u.free = sym (goes-here r) ∙ ap f tick ∙ goes-here q in
      let q' : Goes f s.tick u.free ys = rw (← tick) at q in
      let rest : xs ≡ ys = goes-unique free r q' in
      λ i. record { tick = tick i; free = free i } ∷ rest i

  -- from an earlier tick, or from a later one before the next step
  goes-earlier : {a b v : ℕ} {ss : List Step} → a ≤ b → ((t : ℕ) → a ≤ t → t < b → f t ≡ v) → Goes f b v ss → Goes f a v ss
  goes-earlier {b = b} l h (ends g) = ends (λ t m. by_order t b (λ d. h t m d) (λ d. g t d))
  goes-earlier {a = a} {b = b} l h (steps {s = s} m n g r) = steps {a = a} {s = s} (omega arith) n (λ t p q. by_order t b (λ d. h t p d) (λ d. g t d q)) r

  goes_later : {a b v : ℕ} {s : Step} {ss : List Step} → a ≤ b → b < s.tick → Goes f a v (s ∷ ss) → Goes f b v (s ∷ ss)
  goes_later l m (steps p n g r) = steps m n (λ t d e. g t (omega arith) e) r

-- ---- the two forms of a staircase

-- a staircase, or the end of one
record Chain (f : ℕ → ℕ) (xs : List Step) : Type 0 where
  up : (k : ℕ) → suc k < length xs → (step_at xs k).tick < (step_at xs (suc k)).tick
  differ : (k : ℕ) → suc k < length xs → (step_at xs k).free ≡ (step_at xs (suc k)).free → ⊥
  level : (t k : ℕ) → StandsOn xs t k → (step_at xs k).free ≡ f t

chain-goes : (f : ℕ → ℕ) (s : Step) (ss : List Step) → Chain f (s ∷ ss) → Goes f s.tick s.free ss
chain-goes f s [] c = ends (λ t l. sym (c.level t 0 (record { exists = omega arith; begun = l; goes_on = λ m. absurd (omega arith) })))
chain-goes f s (r ∷ rs) c = steps (c.up 0 (omega arith)) (c.differ 0 (omega arith))
    (λ t l m. sym (c.level t 0 (record { exists = omega arith; begun = l; goes_on = λ _. m })))
    (chain-goes f r rs (record {
      up = λ k l. c.up (suc k) (omega arith);
      differ = λ k l. c.differ (suc k) (omega arith);
      level = λ t k st. c.level t (suc k) (record { exists = omega (arith, st.exists); begun = st.begun; goes_on = λ l. st.goes_on (omega arith) });
    }))

goes-chain : (f : ℕ → ℕ) (s : Step) {ss : List Step} → Goes f s.tick s.free ss → Chain f (s ∷ ss)
goes-chain f s (ends h) = record {
  up = λ k l. absurd (omega arith);
  differ = λ k l. absurd (omega arith);
  level = λ t k st. alone t k st;
}
  where
    alone : (t k : ℕ) → StandsOn (s ∷ []) t k → (step_at (s ∷ []) k).free ≡ f t
    alone t zero st = sym (h t st.begun)
    alone t (suc k) st = absurd (omega (arith, st.exists))
goes-chain f s (steps {s = r} {ss = rs} l n g q) = more (goes-chain f r q)
  where
    more : Chain f (r ∷ rs) → Chain f (s ∷ r ∷ rs)
    more c = record { up = ups; differ = differs; level = levels }
      where
        ups : (k : ℕ) → suc k < length (s ∷ r ∷ rs) → (step_at (s ∷ r ∷ rs) k).tick < (step_at (r ∷ rs) k).tick
        ups zero m = l
        ups (suc k) m = c.up k (omega arith)

        differs : (k : ℕ) → suc k < length (s ∷ r ∷ rs) → (step_at (s ∷ r ∷ rs) k).free ≡ (step_at (r ∷ rs) k).free → ⊥
        differs zero m = n
        differs (suc k) m = c.differ k (omega arith)

        levels : (t k : ℕ) → StandsOn (s ∷ r ∷ rs) t k → (step_at (s ∷ r ∷ rs) k).free ≡ f t
        levels t zero st = sym (g t st.begun (st.goes_on (omega arith)))
        levels t (suc k) st = c.level t k (record { exists = omega (arith, st.exists); begun = st.begun; goes_on = λ m. st.goes_on (omega arith) })

-- a staircase is its first step, at tick 0, and how it goes on
pub data Whole (f : ℕ → ℕ) : List Step → Type 0 where
  whole : {s : Step} {ss : List Step} → s.tick ≡ 0 → Goes f s.tick s.free ss → Whole f (s ∷ ss)

pub staircase-whole : (f : ℕ → ℕ) (xs : List Step) → Staircase f xs → Whole f xs
staircase-whole f [] c = absurd (omega (arith, c.one))
staircase-whole f (s ∷ ss) c = whole c.first (chain-goes f s ss (record { up = c.ascending; differ = c.differ; level = c.level }))

pub whole-staircase : (f : ℕ → ℕ) {xs : List Step} → Whole f xs → Staircase f xs
whole-staircase f (whole {s = s} e g) =
    let c = goes-chain f s g in
    record { one = omega arith; first = e; ascending = c.up; differ = c.differ; level = c.level }

pub staircase_unique : StaircaseUnique
staircase_unique f xs ys x y = both (staircase-whole f xs x) (staircase-whole f ys y)
  where
    both : {us vs : List Step} → Whole f us → Whole f vs → us ≡ vs
    both (whole {s = s} {ss = ss} e g) (whole {s = r} {ss = rs} d h) =
        let tick : s.tick ≡ r.tick = omega arith in
        let free : s.free ≡ r.free = sym (goes-here f g) ∙ ap f tick ∙ goes-here f h in
        let h' : Goes f s.tick r.free rs = rw (← tick) at h in
        let rest : ss ≡ rs = goes-unique f free g h' in
        λ i. record { tick = tick i; free = free i } ∷ rest i

-- of functions that agree
pub staircase-same : (f g : ℕ → ℕ) (xs : List Step) → ((t : ℕ) → f t ≡ g t) → Staircase f xs → Staircase g xs
staircase-same f g xs h c = record { one = c.one; first = c.first; ascending = c.ascending; differ = c.differ; level = λ t k st. c.level t k st ∙ h t }

-- ---- the staircase by ticks

module _ (f : ℕ → ℕ) where
  abbrev up_to : ℕ → ℕ → ℕ
  up_to n t = f (min t n)

  goes_on : (n : ℕ) {a v : ℕ} {ss : List Step} → a ≤ n → (f n ≡ f (suc n) → ⊥) → Goes (up_to n) a v ss
      → Goes (up_to (suc n)) a v (ss ++ (record { tick = suc n; free = f (suc n) } ∷ []))
  goes_on n {a = a} {v = v} l d (ends h) = steps {a = a} {s = record { tick = suc n; free = f (suc n) }} (omega arith)
      (λ e. d (sym (ap f (let q : min n n ≡ n = omega arith in q)) ∙ h n l ∙ e))
      (λ t p q. ap f (let z : min t (suc n) ≡ min t n = omega arith in z) ∙ h t p)
      (ends {a = suc n} {v = f (suc n)} (λ t p. ap f (let z : min t (suc n) ≡ suc n = omega arith in z)))
  goes_on n {a = a} {v = v} l d (steps {s = s} m e h r) =
      let in-time : s.tick ≤ n = by_order n s.tick
      (λ b. absurd (e (sym (h (pred s.tick) (omega arith) (omega arith)) ∙ ap f (let z : min (pred s.tick) n ≡ min s.tick n = omega arith in z) ∙ goes-here (up_to n) r)))
      (λ b. b) in
      steps m e (λ t p q. ap f (let z : min t (suc n) ≡ min t n = omega arith in z) ∙ h t p q) (goes_on n in-time d r)

  whole-on : (n : ℕ) {xs : List Step} → (f n ≡ f (suc n) → ⊥) → Whole (up_to n) xs → Whole (up_to (suc n)) (xs ++ (record { tick = suc n; free = f (suc n) } ∷ []))
  whole-on n d (whole e g) = whole e (goes_on n (omega arith) d g)

  up-to : (n : ℕ) → Staircase (up_to n) (steps_up_to f n)
  unfolding steps_up_to
  up-to zero = whole-staircase (up_to 0) (whole refl (ends (λ t _. ap f (let z : min t 0 ≡ 0 = omega arith in z))))
  up-to (suc n) = split (eqb (f n) (f (suc n)))
      (λ e. rw e (staircase-same (up_to n) (up_to (suc n)) (steps_up_to f n) (same (eqb-true _ _ e)) (up-to n)))
      (λ e. rw e (whole-staircase (up_to (suc n)) (whole-on n (eqb-false _ _ e) (staircase-whole (up_to n) (steps_up_to f n) (up-to n)))))
    where
      same : f n ≡ f (suc n) → (t : ℕ) → up_to n t ≡ up_to (suc n) t
      same e t = by_order t (suc n)
          (λ l. ap f (let z : min t n ≡ min t (suc n) = omega arith in z))
          (λ l. ap f (let z : min t n ≡ n = omega arith in z) ∙ e ∙ ap f (let z : suc n ≡ min t (suc n) = omega arith in z))

  -- of a function that changes no more from n on
  pub steps-staircase : (n : ℕ) → ((t : ℕ) → n ≤ t → f t ≡ f n) → Staircase f (steps_up_to f n)
  steps-staircase n h = staircase-same (up_to n) f (steps_up_to f n)
      (λ t. by_order t n (λ l. ap f (let z : min t n ≡ t = omega arith in z)) (λ l. ap f (let z : min t n ≡ n = omega arith in z) ∙ sym (h t l)))
      (up-to n)

-- ---- reading from the end

module _ (f : ℕ → ℕ) (xs : List Step) (c : Staircase f xs) where
  abbrev n : ℕ
  n = length xs

  abbrev tick_of : ℕ → ℕ
  tick_of k = (step_at xs k).tick

  -- the step that a tick stands on
  pub standing : (t : ℕ) → (k : ℕ) × StandsOn xs t k
  standing t =
      let p : ℕ → Bool = λ j. ltb t (tick_of j) in
      let q : ℕ = first_below n p in
      let b : q ≤ n = first-bound n p in
      let one : 0 < q = by_order 0 q (λ l. l) (λ l.
      let z : q ≡ 0 = omega arith in
      let h : ltb t (tick_of q) ≡ true = first_holds n p (omega (arith, c.one)) in
      let h' : ltb t (tick_of 0) ≡ true = rw z at h in
      absurd (omega (arith, ltb-true t (tick_of 0) h', c.first))) in
      let e : suc (pred q) ≡ q = omega arith in (
        pred q,
        record {
          exists = omega arith;
          begun = ltb-false _ _ (first-before n p (pred q) (omega arith));
          goes_on = λ l. let l' : q < n = omega arith in rw e (ltb-true _ _ (first_holds n p l'));
        },
      )

  ticks-up : (i d : ℕ) → i + d < n → tick_of i ≤ tick_of (i + d)
  ticks-up i zero l = let e : i + 0 ≡ i = omega arith in rw e (omega arith)
  ticks-up i (suc d) l =
      let e : i + suc d ≡ suc (i + d) = omega arith in
      let h : tick_of i ≤ tick_of (i + d) = ticks-up i d (omega arith) in
      let s : tick_of (i + d) < tick_of (suc (i + d)) = c.ascending (i + d) (omega arith) in
      rw e (omega arith)

  ticks-ascend : (i j : ℕ) → i ≤ j → j < n → tick_of i ≤ tick_of j
  ticks-ascend i j l m =
      let e : i + (j - i) ≡ j = omega arith in
      rw e at (ticks-up i (j - i) (omega arith))

  module _ (need : ℕ) where
    abbrev From : ℕ → Type 0
    From s = (u : ℕ) → s ≤ u → need ≤ f u

    abbrev k : ℕ
    k = settled_from n (suffices xs need)

    -- the step before has too little
    short-before : (j : ℕ) → k ≡ suc j → (step_at xs j).free < need
    short-before j e = leb-false need (step_at xs j).free (settled_before n (suffices xs need) j e)

    read_first : k < n → First From (tick_of k)
    read_first l = record {
      holds = λ u m.
          let s = standing u in
          let st = s.1 in
          let j : k ≤ s.0 = by_order s.0 k (λ d. absurd (omega (arith, st.goes_on (omega arith), ticks-ascend (suc s.0) k d l))) (λ d. d) in
          let w : need ≤ (step_at xs s.0).free = leb-true _ _ (settled-holds n (suffices xs need) s.0 j st.exists) in
          omega (arith, w, c.level u s.0 st);
      least = λ m h. by_order m (tick_of k)
          (λ d. elim (ℕ_discrete k 0) [
            | yes z ↦ let q : tick_of k ≡ 0 = ap tick_of z ∙ c.first in absurd (omega arith)
            | no z ↦ absurd (before m h d (pred k) (omega arith))
          ])
          (λ d. d);
    }
      where
        before : (m : ℕ) → From m → m < tick_of k → (j : ℕ) → k ≡ suc j → ⊥
        before m h d j e =
            let d' : m < tick_of (suc j) = rw e at d in
            let a : tick_of j < tick_of (suc j) = c.ascending j (omega arith) in
            let u = pred (tick_of (suc j)) in
            let v : (step_at xs j).free ≡ f u = c.level u j (record { exists = omega arith; begun = omega arith; goes_on = λ _. omega arith }) in
            omega (arith, v, h u (omega arith), short-before j e)

    read_none : n ≤ k → (s : ℕ) → From s → ⊥
    read_none l s h =
        let b : k ≤ n = settled-bound n (suffices xs need) in
        let j = pred n in
        let e : k ≡ suc j = omega (arith, c.one) in
        let u = max s (tick_of j) in
        let v : (step_at xs j).free ≡ f u = c.level u j (record { exists = omega (arith, c.one); begun = omega arith; goes_on = λ m. absurd (omega arith) }) in
        omega (arith, v, h u (omega arith), short-before j e)

    read_found : k < n → free_from_steps xs need ≡ some (tick_of k)
    unfolding free_from_steps
    read_found l = rw (lt-ltb k n l)

    read-nowhere : n ≤ k → free_from_steps xs need ≡ none
    unfolding free_from_steps
    read-nowhere l = rw (le-ltb k n l)

    pub read-exact : (t : ℕ) → (free_from_steps xs need ≡ some t) ↔ First From t
    read-exact t = (
      (λ e. by_order k n
          (λ l. let q : tick_of k ≡ t = cc (read_found l) in rw q at (read_first l))
          (λ l. let z : ◌≡◌ {A = ℕ} 0 1 = cc (read-nowhere l) in absurd (omega arith))),
      (λ g. by_order k n
          (λ l. let h = read_first l in read_found l ∙ ap some (omega (arith, g.least _ h.holds, h.least t g.holds)))
          (λ l. absurd (read_none l t g.holds))),
    )

-- ---- a change

module _ (x : Change) (f : ℕ → ℕ) (room : x.rises ≡ true → (t : ℕ) → x.tick ≤ t → x.amount ≤ f t) where
  abbrev g : ℕ → ℕ
  g = free_after x f

  after-before : (t : ℕ) → t < x.tick → g t ≡ f t
  after-before t l = rw (lt-leb x.tick t l)

  after-from : (t : ℕ) → x.tick ≤ t → g t ≡ free_by x (f t)
  after-from t l = rw (le-leb x.tick t l)

  by-differ : (b : Bool) (m v w : ℕ) → (b ≡ true → m ≤ v) → (b ≡ true → m ≤ w) → (v ≡ w → ⊥) → cond b (v - m) (v + m) ≡ cond b (w - m) (w + m) → ⊥
  by-differ true m v w p q d e = d (omega (arith, p refl, q refl))
  by-differ false m v w p q d e = d (omega arith)

  -- all steps from the change on are changed alike
  goes-shifted : {a v : ℕ} {ss : List Step} → x.tick ≤ a → Goes f a v ss → Goes g a (free_by x v) (steps_shifted x ss)
  unfolding steps_shifted
  goes-shifted l (ends h) = ends (λ t m. after-from t (omega arith) ∙ ap (free_by x) (h t m))
  goes-shifted {a = a} {v = v} l (steps {s = s} m n h r) = steps {s = record { tick = s.tick; free = free_by x s.free }} m
      (by-differ x.rises x.amount v s.free
      (λ e. omega (arith, room e a l, h a (omega arith) m))
      (λ e. omega (arith, room e s.tick (omega arith), goes-here f r)) n)
      (λ t p q. after-from t (omega arith) ∙ ap (free_by x) (h t p q))
      (goes-shifted (omega arith) r)

  -- a step that may have the amount before it
  goes-if-new : {a v : ℕ} (s : Step) {ss : List Step} → a < s.tick → ((t : ℕ) → a ≤ t → t < s.tick → g t ≡ v) → Goes g s.tick s.free ss → Goes g a v (step_if_new v s ss)
  goes-if-new {v = v} s l h r = split (eqb v s.free)
      (λ e. rw e (goes-earlier g (omega arith) h (let q : s.free ≡ v = sym (eqb-true _ _ e) in rw q at r)))
      (λ e. rw e (steps l (eqb-false _ _ e) h r))

  goes-behind : {a v : ℕ} {ss : List Step} → a < x.tick → Goes f a v ss → Goes g a v (steps_behind x v ss)
  unfolding steps_behind
  goes-behind {v = v} l (ends h) = goes-if-new (record { tick = x.tick; free = free_by x v }) l
      (λ t p q. after-before t q ∙ h t p)
      (ends (λ t p. after-from t p ∙ ap (free_by x) (h t (omega arith))))
  goes-behind {a = a} {v = v} l (steps {s = s} {ss = ss} m n h r) =
      split (ltb s.tick x.tick)
      (λ e. let d : s.tick < x.tick = ltb-true _ _ e in rw e (steps m n (λ t p q. after-before t (omega arith) ∙ h t p q) (goes-behind d r)))
      (λ e. rw e (split (eqb s.tick x.tick)
      (λ y. let z : s.tick ≡ x.tick = eqb-true _ _ y in
      rw y (goes-if-new (record { tick = s.tick; free = free_by x s.free }) m
      (λ t p q. after-before t (omega arith) ∙ h t p q)
      (goes-shifted (omega arith) r)))
      (λ y. let z : x.tick < s.tick = omega (arith, ltb-false s.tick x.tick e, eqb-false s.tick x.tick y) in
      rw y (goes-if-new (record { tick = x.tick; free = free_by x v }) l
      (λ t p q. after-before t q ∙ h t p (omega arith))
      (goes-shifted (omega arith) (goes_later f (omega arith) z (steps m n h r)))))))

  whole-after : {xs : List Step} → Whole f xs → Whole g (steps_after x xs)
  unfolding steps_after steps_shifted
  whole-after (whole {s = s} {ss = ss} e r) = split (eqb x.tick 0)
      (λ y. let z : x.tick ≡ 0 = eqb-true _ _ y in rw y (whole e (goes-shifted (omega arith) r)))
      (λ y. let z : 0 < x.tick = by_order 0 x.tick (λ l. l) (λ l. absurd (eqb-false x.tick 0 y (omega arith))) in rw y (whole e (goes-behind (omega arith) r)))

pub steps_after_law : StepsAfterLaw
steps_after_law x f xs c room = whole-staircase (free_after x f) (whole-after x f room (staircase-whole f xs c))

-- ---- several changes

unfoldable pub free_after_all : List Change → (ℕ → ℕ) → ℕ → ℕ
free_after_all [] f = f
free_after_all (x ∷ xs) f = free_after_all xs (free_after x f)

value_after : (b c : Bool) (v m : ℕ) → cond c (cond b m 0) 0 ≤ v → cond c (cond b (v - m) (v + m)) v + cond c (cond b m 0) 0 ≡ v + cond c (cond b 0 m) 0
value_after true true v m l = omega arith
value_after true false v m l = omega arith
value_after false true v m l = omega arith
value_after false false v m l = omega arith

one-after : (x : Change) (f : ℕ → ℕ) (t : ℕ) → risen t x ≤ f t → free_after x f t + risen t x ≡ f t + fallen t x
one-after x f t = value_after x.rises (leb x.tick t) (f t) x.amount

pub rest-room : (x : Change) (xs : List Change) (f : ℕ → ℕ) → ((t : ℕ) → sum_over (risen t) (x ∷ xs) ≤ f t) → (t : ℕ) → sum_over (risen t) xs ≤ free_after x f t
unfolding sum_over
rest-room x xs f h t = omega (arith, h t, one-after x f t (omega (arith, h t)))

-- what is free after them all
pub all_after : (xs : List Change) (f : ℕ → ℕ) → ((t : ℕ) → sum_over (risen t) xs ≤ f t) → (t : ℕ)
    → free_after_all xs f t + sum_over (risen t) xs ≡ f t + sum_over (fallen t) xs
unfolding free_after_all sum_over
all_after [] f h t = refl
all_after (x ∷ xs) f h t = omega (arith, all_after xs (free_after x f) (rest-room x xs f h) t, one-after x f t (omega (arith, h t)))

pub rise-room : (x : Change) (xs : List Change) (f : ℕ → ℕ) → ((t : ℕ) → sum_over (risen t) (x ∷ xs) ≤ f t) → x.rises ≡ true → (t : ℕ) → x.tick ≤ t → x.amount ≤ f t
unfolding sum_over
rise-room x xs f h e t l =
    let r : risen t x ≡ x.amount = rw (le-leb x.tick t l, e) in
    omega (arith, h t, r)

pub stairs-after : (xs : List Change) (f : ℕ → ℕ) (ss : List Step) → Staircase f ss → ((t : ℕ) → sum_over (risen t) xs ≤ f t)
    → Staircase (free_after_all xs f) (steps_after_all xs ss)
unfolding free_after_all steps_after_all
stairs-after [] f ss c h = c
stairs-after (x ∷ xs) f ss c h = stairs-after xs (free_after x f) (steps_after x ss) (steps_after_law x f ss c (rise-room x xs f h)) (rest-room x xs f h)
