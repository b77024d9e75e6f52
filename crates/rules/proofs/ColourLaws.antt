-- Order 2 in words: trial_by_cases, totals_by_cases, placing_by_cases; hold_by_cases, whole_file; file_by_cases, moves_take_time, printed_rule.
use Prim.Native.Nat.{ℕ, ◌+◌, ◌≤◌, ◌<◌, max}
use mathlib.Core.Bool.{Bool, true, false, not, cond, ◌&&◌}
use mathlib.Core.Path.{◌≡◌, refl, sym, ap, ◌∙◌}
use mathlib.Core.Logic.{◌≢◌}
use native.Mathlib.Omega.{arith}
use lib.Dec.{ltb}
use borrow.Author.Tests.{le-leb, lt-ltb, ltb-true, eq-eqb, ne_eqb}
use Rattle.rules.specs.Count.{sum_where, max_where}
use Rattle.rules.specs.Model.{Colour, blue, red, same_colour, move_time_between, newly_held, Instance, file_at, file_count, size_at, move_time_at, is_placed}
use Rattle.rules.specs.Model.{Schedule, move_at, release_at, maker_run, reader_run, maker_colour, reader_colour, made_at, moved, actual_move_time, move_end}
use Rattle.rules.specs.Residency.{open_hold, closed_hold, covers, hold_of}
use Rattle.rules.specs.Validity.{OnTime}
use Rattle.rules.specs.Scheduling.{reads, crossing, arrival, crossing_size, crossing_time, input_start}
use Rattle.rules.specs.ColourCases.{other, Adds, TrialByCases, TotalsByCases, PlacingByCases, HoldByCases, WholeFile}
use Rattle.rules.specs.ColourCases.{Stays, Moves, FileByCases, MovesTakeTime, Communicates, PrintedRule}
use Rattle.rules.proofs.CountLaws.{sum-cong, sum-changed, max-cong, max-changed, where-cong}
use Rattle.rules.proofs.HoldLaws.{hold-open, hold-closed}
use Rattle.rules.proofs.Tests.{split, clash, and_yes, and_no}

-- ---- the two functions

-- of a file that is read or not: what the test for crossing gives is what they give
pub move-cases : (read : Bool) (m c : Colour) (x : ℕ) → cond (read && not (same_colour m c)) x 0 ≡ cond read (move_time_between m c x) 0
move-cases true blue blue x = refl
move-cases true red red x = refl
move-cases true blue red x = refl
move-cases true red blue x = refl
move-cases false m c x = refl

pub size-cases : (read : Bool) (m c : Colour) (x : ℕ) → cond (read && not (same_colour m c)) x 0 ≡ cond read (newly_held m c x) 0
size-cases true blue blue x = refl
size-cases true red red x = refl
size-cases true blue red x = refl
size-cases true red blue x = refl
size-cases false m c x = refl

-- a move time of at least 1 is above 0 in just the cases in which the file moves
pub takes-time : (m r : Colour) (x : ℕ) → 1 ≤ x → ltb 0 (move_time_between m r x) ≡ not (same_colour m r)
takes-time blue blue x l = refl
takes-time red red x l = refl
takes-time blue red x l = lt-ltb 0 x (omega arith)
takes-time red blue x l = lt-ltb 0 x (omega arith)

-- ---- a trial

-- a sum and a greatest value with one term apart
module _ (p : ℕ → Bool) (f : ℕ → ℕ) (k : ℕ) where
  left_out : (j : ℕ) → j ≢ k → cond (p j) (f j) 0 ≡ cond (p j && other k j) (f j) 0
  left_out j d = rw (ne_eqb j k d, and_yes (p j))

  own_out : cond (p k && other k k) (f k) 0 ≡ 0
  own_out = rw (eq-eqb k k refl, and_no (p k))

  sum-other : (n : ℕ) → k < n → sum_where n p f ≡ sum_where n (λ j. p j && other k j) f + cond (p k) (f k) 0
  sum-other n h = sum-changed n _ _ k _ h left_out (omega (arith, own_out))

  max-other : (n : ℕ) → k < n → max_where n p f ≡ max (max_where n (λ j. p j && other k j) f) (cond (p k) (f k) 0)
  max-other n h = max-changed n _ _ k _ h left_out own_out refl

module _ (I : Instance) (P : Schedule) (i k : ℕ) (read : reads I i k ≡ true) (m c : Colour) (e : maker_colour I P k ≡ m) where
  arrival-is : arrival I P i c k ≡ made_at I P k + move_time_between m c (move_time_at I k)
  arrival-is = rw (read, e, move-cases true m c (move_time_at I k)) refl

  adds : k < file_count I → Adds I P i k c (move_time_between m c (move_time_at I k)) (newly_held m c (size_at I k))
  unfolding input_start crossing_time crossing_size
  adds h =
      let own : cond (reads I i k) (arrival I P i c k) 0 ≡ made_at I P k + move_time_between m c (move_time_at I k) =
      ap (λ x. cond x (arrival I P i c k) 0) read ∙ arrival-is in
      let time : cond (crossing I P i c k) (move_time_at I k) 0 ≡ move_time_between m c (move_time_at I k) = rw (read, e) (move-cases true m c (move_time_at I k)) in
      let size : cond (crossing I P i c k) (size_at I k) 0 ≡ newly_held m c (size_at I k) = rw (read, e) (size-cases true m c (size_at I k)) in
      record {
        arrives = omega (arith, max-other (reads I i) (arrival I P i c) k (file_count I) h, own);
        waits = omega (arith, max-other (crossing I P i c) (move_time_at I) k (file_count I) h, time);
        enters = omega (arith, sum-other (crossing I P i c) (size_at I) k (file_count I) h, size);
      }

pub trial_by_cases : TrialByCases
trial_by_cases I P i k h read = record {
  blue_blue = λ e. adds I P i k read blue blue e h;
  red_red = λ e. adds I P i k read red red e h;
  blue_red = λ e. adds I P i k read blue red e h;
  red_blue = λ e. adds I P i k read red blue e h;
}

pub totals_by_cases : TotalsByCases
unfolding crossing_size crossing_time input_start
totals_by_cases I P i c = record {
  arrives = where-cong (file_count I) (reads I i) _ _ (λ k l read. arrival-is I P i k read (maker_colour I P k) c refl);
  waits = max-cong (file_count I) _ _ (λ k l. move-cases (reads I i k) (maker_colour I P k) c (move_time_at I k));
  enters = sum-cong (file_count I) _ _ (λ k l. size-cases (reads I i k) (maker_colour I P k) c (size_at I k));
}

pub placing_by_cases : PlacingByCases
placing_by_cases I P i k start read = record {
  blue_blue = λ e. rw (read, e) refl;
  red_red = λ e. rw (read, e) refl;
  blue_red = λ e. rw (read, e) refl;
  red_blue = λ e. rw (read, e) refl;
}

-- ---- what a memory holds

moved_by : (I : Instance) (P : Schedule) (k : ℕ) (m r : Colour) → maker_colour I P k ≡ m → reader_colour I P k ≡ r → moved I P k ≡ not (same_colour m r)
moved_by I P k m r e g = rw (e, g) refl

same-hold : {x x' y y' : Bool} (b v e r : ℕ) → x ≡ x' → y ≡ y' → closed_hold x y b v e r ≡ closed_hold x' y' b v e r
same-hold b v e r p q = rw (p, q) refl

module _ (I : Instance) (P : Schedule) (k : ℕ) (p : is_placed (maker_run I P k) ≡ true) where
  closed_in : is_placed (reader_run I P k) ≡ true → (m r c : Colour) → maker_colour I P k ≡ m → reader_colour I P k ≡ r → hold_of I P c k
      ≡ closed_hold (not (same_colour m r)) (same_colour m c) (maker_run I P k).start (move_at P k) (move_end I P k) (release_at I P (file_at I k).reader)
  closed_in q m r c e g =
      hold-closed I (file_at I k) (maker_run I P k) (reader_run I P k) (move_at P k) c p q
      ∙ same-hold _ _ _ _ (moved_by I P k m r e g) (ap (λ x. same_colour x c) e)

  open_in : is_placed (reader_run I P k) ≡ false → (m c : Colour) → maker_colour I P k ≡ m → hold_of I P c k ≡ open_hold (same_colour m c) (maker_run I P k).start
  open_in q m c e =
      let h = hold-open I (file_at I k) (maker_run I P k) (reader_run I P k) (move_at P k) c p q in
      rw e at h

pub hold_by_cases : HoldByCases
hold_by_cases I P k p q = record {
  blue_blue = λ e g. (closed_in I P k p q blue blue blue e g, closed_in I P k p q blue blue red e g);
  red_red = λ e g. (closed_in I P k p q red red blue e g, closed_in I P k p q red red red e g);
  blue_red = λ e g. (closed_in I P k p q blue red blue e g, closed_in I P k p q blue red red e g);
  red_blue = λ e g. (closed_in I P k p q red blue blue e g, closed_in I P k p q red blue red e g);
}

-- at a tick t from the maker's start on
open-whole : (m c : Colour) (b t x : ℕ) → b ≤ t → cond (covers (open_hold (same_colour m c) b) t) x 0 + newly_held m c x ≡ x
open-whole blue blue b t x l = rw (le-leb b t l) (omega arith)
open-whole red red b t x l = rw (le-leb b t l) (omega arith)
open-whole blue red b t x l = omega arith
open-whole red blue b t x l = omega arith

pub whole_file : WholeFile
whole_file I P k p q = record {
  from_blue = λ e. (open_in I P k p q blue blue e, open_in I P k p q blue red e);
  from_red = λ e. (open_in I P k p q red blue e, open_in I P k p q red red e);
  whole = λ c t l.
      rw (open_in I P k p q (maker_colour I P k) c refl)
      (open-whole (maker_colour I P k) c (maker_run I P k).start t (size_at I k) l);
}

-- ---- what the marker asks

module _ (I : Instance) (P : Schedule) (k : ℕ) where
  stays : moved I P k ≡ false → Stays I P k
  stays e = record {
    due = e;
    on_time = ((λ o. o.unmoved e), (λ l. record { unmoved = λ g. l; made = λ g. clash g e; arrived = λ g. clash g e }));
  }

  moves : moved I P k ≡ true → Moves I P k
  moves e = record {
    due = e;
    on_time = ((λ o. (o.made e, o.arrived e)), (λ l. record { unmoved = λ g. clash e g; made = λ g. l.0; arrived = λ g. l.1 }));
  }

  pub actual-moved : moved I P k ≡ true → actual_move_time I P k ≡ move_time_at I k
  actual-moved e = let q = move-cases true (maker_colour I P k) (reader_colour I P k) (move_time_at I k) in omega (arith, rw e at q)

  actual-stays : moved I P k ≡ false → actual_move_time I P k ≡ 0
  actual-stays e = let q = move-cases true (maker_colour I P k) (reader_colour I P k) (move_time_at I k) in omega (arith, rw e at q)

pub file_by_cases : FileByCases
file_by_cases I P k = record {
  blue_blue = λ e g. stays I P k (moved_by I P k blue blue e g);
  red_red = λ e g. stays I P k (moved_by I P k red red e g);
  blue_red = λ e g. moves I P k (moved_by I P k blue red e g);
  red_blue = λ e g. moves I P k (moved_by I P k red blue e g);
}

pub moves_take_time : MovesTakeTime
moves_take_time I W P k h =
    let q : ltb 0 (actual_move_time I P k) ≡ moved I P k = takes-time (maker_colour I P k) (reader_colour I P k) (move_time_at I k) (W.move_times k h).least in
    ((λ e. ltb-true 0 (actual_move_time I P k) (q ∙ e)), (λ l. sym q ∙ lt-ltb 0 (actual_move_time I P k) l))

-- when document 001's communication of a file on time takes place
on-time-tick : (I : Instance) (P : Schedule) (k : ℕ) → OnTime I P k → (tick : ℕ) × Communicates I P k tick
on-time-tick I P k o =
    split (moved I P k)
    (λ e. (move_at P k, record { own = λ g. refl; made = o.made e; over = omega (arith, actual-moved I P k e, o.arrived e) }))
    (λ e. (made_at I P k, record { own = λ g. clash g e; made = omega arith; over = omega (arith, actual-stays I P k e, o.unmoved e) }))

tick-on-time : (I : Instance) (P : Schedule) (k : ℕ) → (tick : ℕ) × Communicates I P k tick → OnTime I P k
tick-on-time I P k (tick, x) = record {
  unmoved = λ e. omega (arith, x.made, x.over);
  made = λ e. omega (arith, x.own e, x.made);
  arrived = λ e. omega (arith, x.own e, x.over, actual-moved I P k e);
}

pub printed_rule : PrintedRule
printed_rule I P k = (on-time-tick I P k, tick-on-time I P k)
