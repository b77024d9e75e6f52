-- The faults of a tick, in words; that some tick has one exactly where the marker refuses by 15, 16 or 17; and the first such tick.
use Prim.Native.Nat.{ℕ, suc, ◌≤◌, ◌<◌, max}
use mathlib.Core.Bool.{true, false, ◌&&◌}
use mathlib.Core.Path.{◌≡◌, refl, sym, ◌∙◌}
use native.Mathlib.Omega.{arith}
use native.Mathlib.Decide.{dec_le}
use lib.Dec.{ltb, eqb}
use borrow.Author.Tests.{ltb-true, lt-ltb, eqb-true, eq-eqb}
use Rattle.rules.specs.Count.{first_below}
use Rattle.rules.specs.Model.{Colour, blue, red, Instance, limit_of, task_count, file_at, file_count, Schedule, move_at, start_at, finish_at, moved, made_at, move_end}
use Rattle.rules.specs.Residency.{held, horizon}
use Rattle.rules.specs.Validity.{Complete, Claim, OverLimit, overlap, overlaps, early, early_for, reads_early, over, makespan, Verdict}
use Rattle.rules.specs.Promises.{WellFormed, First}
use Rattle.rules.specs.Simulation.{shares_from, task_shares, shares_at, arrives_at, read_at, moves_early, starts_early, file_early, early_at, fault_at, is_faulty, closing, first_faulty}
use Rattle.rules.specs.SimulationPromises.{LaterStart, EarlyTick, early_move, early_start, FaultOf, by15, by16, by17, Faulty, is_fault}
use Rattle.rules.proofs.Tests.{split, clash, and-true, or_yes}
use Rattle.rules.proofs.CountLaws.{max-bound, any_found, any_some, first_holds, first_found, first-none}
use Rattle.rules.proofs.CompleteLaws.{nothing_left}
use Rattle.rules.proofs.ValidLaws.{overlap-meets, meets-overlap, overlaps-exact, early-moved, early-unmoved, over-limit, limit-over, apart-exact}
use Rattle.rules.proofs.JudgeLaws.{settled, NoneBelow, Judged, by15 as judged15, by16 as judged16, by17 as judged17, by18 as judged18, by0 as judged0}

-- ---- 16, of a file

module _ (I : Instance) (P : Schedule) (k : ℕ) where
  arrives-moved : moved I P k ≡ true → arrives_at I P k ≡ move_end I P k
  arrives-moved m = rw m

  arrives-unmoved : moved I P k ≡ false → arrives_at I P k ≡ made_at I P k
  arrives-unmoved m = rw m

  early-move : moved I P k ≡ true → move_at P k < made_at I P k → early I P k ≡ true
  early-move m l = early-moved I P k m ∙ rw (lt-ltb _ _ l)

  early-start : read_at I P k < arrives_at I P k → early I P k ≡ true
  early-start l = split (moved I P k)
      (λ m. early-moved I P k m ∙ rw (lt-ltb _ _ (rw (arrives-moved m) at l)) (or_yes (ltb (move_at P k) (made_at I P k))))
      (λ m. early-unmoved I P k m ∙ lt-ltb _ _ (rw (arrives-unmoved m) at l))

  -- an early file has an early tick
  early-ticks : k < file_count I → early I P k ≡ true → (t : ℕ) × EarlyTick I P t
  early-ticks l e = split (moved I P k)
      (λ m. split (ltb (move_at P k) (made_at I P k))
      (λ a. (move_at P k, early_move k l m (ltb-true _ _ a) refl))
      (λ a. (read_at I P k, early_start k l (rw (arrives-moved m) (ltb-true _ _ (rw a at (sym (early-moved I P k m) ∙ e)))) refl)))
      (λ m. (read_at I P k, early_start k l (rw (arrives-unmoved m) (ltb-true _ _ (sym (early-unmoved I P k m) ∙ e))) refl))

-- ---- the fault of a tick

module _ (I : Instance) (P : Schedule) (t : ℕ) where
  shares-later : shares_at I P t ≡ true → LaterStart I P t
  unfolding shares_at
  shares-later h =
      let r = any_found (task_count I) (task_shares I P t) h in
      let q = any_found (task_count I) (shares_from I P t r.0) r.2 in
      let x = and-true (overlap I P r.0 q.0) _ q.2 in
      let m = overlap-meets I P r.0 q.0 x.0 in
      record {
        one = r.0;
        other = q.0;
        one_exists = r.1;
        other_exists = q.1;
        differ = m.differ;
        processor = m.processor;
        shares = m.shares;
        later = eqb-true _ _ x.1;
      }

  later-shares : LaterStart I P t → shares_at I P t ≡ true
  unfolding shares_at
  later-shares x =
      let m = meets-overlap I P x.one x.other (record { differ = x.differ; processor = x.processor; shares = x.shares }) in
      any_some (task_count I) (task_shares I P t) x.one x.one_exists
      (any_some (task_count I) (shares_from I P t x.one) x.other x.other_exists (rw m (eq-eqb _ _ x.later)))

  early-tick : early_at I P t ≡ true → EarlyTick I P t
  unfolding early_at
  early-tick h =
      let r = any_found (file_count I) (file_early I P t) h in
      let k = r.0 in
      split (moves_early I P k && eqb (move_at P k) t)
      (λ a. let x = and-true (moves_early I P k) _ a in
      let y = and-true (moved I P k) _ x.0 in
      early_move k r.1 y.0 (ltb-true _ _ y.1) (eqb-true _ _ x.1))
      (λ a. let x = and-true (starts_early I P k) _ (rw a at r.2) in
      early_start k r.1 (ltb-true _ _ x.0) (eqb-true _ _ x.1))

  tick-early : EarlyTick I P t → early_at I P t ≡ true
  unfolding early_at
  tick-early (early_move k l m a e) = any_some (file_count I) (file_early I P t) k l (rw (m, lt-ltb _ _ a, eq-eqb _ _ e))
  tick-early (early_start k l a e) = any_some (file_count I) (file_early I P t) k l (rw (lt-ltb _ _ a, eq-eqb _ _ e) (or_yes (moves_early I P k && eqb (move_at P k) t)))

  -- what the number says
  pub data Fault : ℕ → Type 0 where
    some : {n : ℕ} → FaultOf I P t n → Fault n
    none : (LaterStart I P t → ⊥) → (EarlyTick I P t → ⊥) → (OverLimit I P t → ⊥) → Fault 0

  pub fault : Fault (fault_at I P t)
  unfolding fault_at
  fault = split (shares_at I P t)
      (λ a. rw a (some (by15 (shares-later a))))
      (λ a. split (early_at I P t)
      (λ b. rw (a, b) (some (by16 (no-later a) (early-tick b))))
      (λ b. split (over I P t)
      (λ d. rw (a, b, d) (some (by17 (no-later a) (no-early b) (over-limit I P t d))))
      (λ d. rw (a, b, d) (none (no-later a) (no-early b) (λ o. clash (limit-over I P t o) d)))))
    where
      no-later : shares_at I P t ≡ false → LaterStart I P t → ⊥
      no-later a x = clash (later-shares x) a

      no-early : early_at I P t ≡ false → EarlyTick I P t → ⊥
      no-early b x = clash (tick-early x) b

  -- a tick has one fault
  one-fault : {m n : ℕ} → FaultOf I P t m → FaultOf I P t n → m ≡ n
  one-fault (by15 a) (by15 x) = refl
  one-fault (by15 a) (by16 x y) = absurd (x a)
  one-fault (by15 a) (by17 x y z) = absurd (x a)
  one-fault (by16 a b) (by15 x) = absurd (a x)
  one-fault (by16 a b) (by16 x y) = refl
  one-fault (by16 a b) (by17 x y z) = absurd (y b)
  one-fault (by17 a b d) (by15 x) = absurd (a x)
  one-fault (by17 a b d) (by16 x y) = absurd (b y)
  one-fault (by17 a b d) (by17 x y z) = refl

  positive : {n : ℕ} → FaultOf I P t n → 0 < n
  positive (by15 a) = omega arith
  positive (by16 a b) = omega arith
  positive (by17 a b d) = omega arith

  faulty-of : {n : ℕ} → Fault n → ltb 0 n ≡ true → Faulty I P t
  faulty-of {n = n} (some f) e = record { number = n; fault = f }
  faulty-of (none a b d) e = clash e refl

  no-fault : {R : Type 0} {n : ℕ} → (LaterStart I P t → ⊥) → (EarlyTick I P t → ⊥) → (OverLimit I P t → ⊥) → FaultOf I P t n → R
  no-fault a b d (by15 x) = absurd (a x)
  no-fault a b d (by16 x y) = absurd (b y)
  no-fault a b d (by17 x y z) = absurd (d z)

  number_of : {m n : ℕ} → Fault m → FaultOf I P t n → m ≡ n
  number_of (some f) g = one-fault f g
  number_of (none a b d) g = no-fault a b d g

  pub is-faulty : is_faulty I P t ≡ true → Faulty I P t
  is-faulty e = faulty-of fault e

  pub fault-number : {n : ℕ} → FaultOf I P t n → fault_at I P t ≡ n
  fault-number f = number_of fault f

  pub faulty-is : Faulty I P t → is_faulty I P t ≡ true
  faulty-is f = rw (fault-number f.fault) (lt-ltb _ _ (positive f.fault))

  -- any of the three makes it faulty
  of-later : LaterStart I P t → Faulty I P t
  of-later x = record { number = 15; fault = by15 x }

  of_some : ((EarlyTick I P t → ⊥) → (OverLimit I P t → ⊥) → ⊥) → Faulty I P t
  of_some h = go fault
    where
      go : {n : ℕ} → Fault n → Faulty I P t
      go {n = n} (some f) = record { number = n; fault = f }
      go (none a b d) = absurd (h b d)

  of-early : EarlyTick I P t → Faulty I P t
  of-early x = of_some (λ b d. b x)

  pub of-over : OverLimit I P t → Faulty I P t
  of-over x = of_some (λ b d. d x)

-- ---- beside the marker's judgement

pub closing-is : (I : Instance) (P : Schedule) → closing I P ≡ suc (max (makespan I P) (settled I P))
unfolding closing
closing-is I P = refl

pub finish-span : (I : Instance) (P : Schedule) (i : ℕ) → i < task_count I → finish_at I P i ≤ makespan I P
unfolding makespan
finish-span I P i l = max-bound (task_count I) (finish_at I P) i l

module _ (I : Instance) (W : WellFormed I) (P : Schedule) (complete : Complete I P) where
  -- nothing is over its limit from where the memories settle on
  pub over-settled : (t : ℕ) → OverLimit I P t → t < settled I P
  over-settled t o = go o.memory o.more
    where
      go : (c : Colour) → limit_of I c < held I P c t → t < settled I P
      go blue l = elim (dec_le (horizon I P blue) t) [ yes h ↦ omega (arith, nothing_left I W P complete blue t h) | no h ↦ omega arith ]
      go red l = elim (dec_le (horizon I P red) t) [ yes h ↦ omega (arith, nothing_left I W P complete red t h) | no h ↦ omega arith ]

  -- a faulty tick is before `closing`
  fault-closes : (t : ℕ) {n : ℕ} → FaultOf I P t n → t < closing I P
  fault-closes t (by15 x) =
      omega (arith, closing-is I P, finish-span I P x.one x.one_exists, finish-span I P x.other x.other_exists, x.later)
  fault-closes t (by16 a (early_move k l m b e)) =
      omega (arith, closing-is I P, finish-span I P (file_at I k).maker (omega (arith, W.ordered k l, W.exists k l)), b, e)
  fault-closes t (by16 a (early_start k l b e)) =
      omega (arith, closing-is I P, finish-span I P (file_at I k).reader (W.exists k l), e)
  fault-closes t (by17 a b o) = omega (arith, closing-is I P, over-settled t o)

  -- a timetable that passes the marker's test by 15 has no tick at fault by 15
  module _ (apart : NoneBelow (task_count I) (overlaps I P)) where
    no-later : (t : ℕ) → LaterStart I P t → ⊥
    no-later t x = (apart-exact I W P).0 apart x.one x.other x.one_exists x.other_exists x.differ x.processor x.shares

  -- nor by 16, where it passes that test
  module _ (timely : NoneBelow (task_count I) (reads_early I P)) where
    early-file : (k : ℕ) → k < file_count I → early I P k ≡ true → ⊥
    unfolding reads_early
    early-file k l e =
        let j = (file_at I k).reader in
        clash (any_some (file_count I) (early_for I P j) k l (rw (eq-eqb j j refl, e))) (timely j (W.exists k l))

    no-early : (t : ℕ) → EarlyTick I P t → ⊥
    no-early t (early_move k l m a e) = early-file k l (early-move I P k m a)
    no-early t (early_start k l a e) = early-file k l (early-start I P k a)

  -- and one that passes all three has no faulty tick
  module _ (apart : NoneBelow (task_count I) (overlaps I P)) (timely : NoneBelow (task_count I) (reads_early I P)) (under : NoneBelow (settled I P) (over I P)) where
    no-over : (t : ℕ) → OverLimit I P t → ⊥
    no-over t o = clash (limit-over I P t o) (under t (over-settled t o))

    pub clean : (t : ℕ) → Faulty I P t → ⊥
    clean t f = no-fault I P t (no-later apart t) (no-early timely t) (no-over t) f.fault

  -- and one that does not has one
  found15 : (i : ℕ) → i < task_count I → overlaps I P i ≡ true → (t : ℕ) × Faulty I P t
  found15 i l e =
      let x = (overlaps-exact I P i l).0 e in
      let t = max (start_at P i) (start_at P x.other) in (
        t,
        of-later I P t (record {
          one = i;
          other = x.other;
          one_exists = l;
          other_exists = x.other_exists;
          differ = x.differs;
          processor = x.processor;
          shares = x.shares;
          later = refl;
        }),
      )

  found16 : (j : ℕ) → reads_early I P j ≡ true → (t : ℕ) × Faulty I P t
  unfolding reads_early
  found16 j e =
      let r = any_found (file_count I) (early_for I P j) e in
      let x = early-ticks I P r.0 r.1 (and-true (eqb (file_at I r.0).reader j) _ r.2).1 in
      (x.0, of-early I P x.0 x.1)

  pub judged-fault : (claim : Claim) {v : Verdict} → Judged I P claim v → is_fault v.number ≡ true → (t : ℕ) × Faulty I P t
  judged-fault claim (judged15 i f) e = found15 i f.holds.0 f.holds.1
  judged-fault claim (judged16 j a f) e = found16 j f.holds.1
  judged-fault claim (judged17 t a b f) e = (t, of-over I P t (over-limit I P t f.holds))
  judged-fault claim (judged18 a b d x) e = clash e refl
  judged-fault claim (judged0 p) e = clash e refl

  pub judged-clean : (claim : Claim) {v : Verdict} → Judged I P claim v → is_fault v.number ≡ false → (t : ℕ) → Faulty I P t → ⊥
  judged-clean claim (judged15 i f) e t = clash refl e
  judged-clean claim (judged16 j a f) e t = clash refl e
  judged-clean claim (judged17 s a b f) e t = clash refl e
  judged-clean claim (judged18 a b d x) e t = clean a b d t
  judged-clean claim (judged0 p) e t = clean p.apart p.timely p.under t

  -- where the marker says 17 its instant is the first faulty tick
  pub judged-over : (claim : Claim) {v : Verdict} → Judged I P claim v → v.number ≡ 17 → First (Faulty I P) v.place × FaultOf I P v.place 17
  judged-over claim (judged15 i f) e = absurd (omega arith)
  judged-over claim (judged16 j a f) e = absurd (omega arith)
  judged-over claim (judged17 t a b f) e = (
    record {
      holds = of-over I P t (over-limit I P t f.holds);
      least = λ m g. split (over I P m) (f.least m) (λ n. no-fault I P m (no-later a m) (no-early b m) (λ o. clash (limit-over I P m o) n) g.fault);
    },
    by17 (no-later a t) (no-early b t) (over-limit I P t f.holds),
  )
  judged-over claim (judged18 a b d x) e = absurd (omega arith)
  judged-over claim (judged0 p) e = absurd (omega arith)

  -- ---- the first faulty tick

  pub first-faulty : ltb (first_faulty I P) (closing I P) ≡ true → First (Faulty I P) (first_faulty I P)
  unfolding first_faulty
  first-faulty e =
      let l = ltb-true (first_below (closing I P) (is_faulty I P)) (closing I P) e in
      record {
        holds = is-faulty I P (first_below (closing I P) (is_faulty I P)) (first_holds (closing I P) (is_faulty I P) l);
        least = λ m f. first_found (closing I P) (is_faulty I P) m (fault-closes m f.fault) (faulty-is I P m f);
      }

  pub none-faulty : ltb (first_faulty I P) (closing I P) ≡ false → (t : ℕ) → Faulty I P t → ⊥
  unfolding first_faulty
  none-faulty e t f = clash (faulty-is I P t f) (first-none (closing I P) (is_faulty I P) e t (fault-closes t f.fault))

  -- whether there is one
  pub some-faulty : (t : ℕ) → Faulty I P t → ltb (first_faulty I P) (closing I P) ≡ true
  some-faulty t f = split (ltb (first_faulty I P) (closing I P)) (λ e. e) (λ e. absurd (none-faulty e t f))

  -- no tick before it is faulty
  pub before-faulty : (t : ℕ) → t < first_faulty I P → Faulty I P t → ⊥
  before-faulty t l f = absurd (omega (arith, (first-faulty (some-faulty t f)).least t f))
