-- When a timetable is refused for its text, and when it is read: schedule_faults, timetable_exact.
use Prim.Native.Nat.{ℕ, zero, suc, ◌+◌, ◌-◌, ◌≤◌, ◌<◌}
use mathlib.Core.Bool.{true, false}
use mathlib.Core.Path.{◌≡◌, refl, sym, ap, subst, ◌∙◌}
use mathlib.Core.Option.{Option, none, some}
use mathlib.Core.List.{List, [], ◌∷◌, ◌++◌}
use native.Mathlib.Omega.{arith}
use native.Mathlib.Decide.{dec_le}
use lib.Dec.{leb, eqb}
use lib.ListN.{length}
use borrow.Author.Tests.{leb-true, leb-false, le-leb, lt-leb, eqb-false, eq-eqb, ne_eqb}
use Rattle.rules.specs.Limits.{max_text}
use Rattle.rules.specs.Model.{Instance, task_count, file_count, file_at, Run, Schedule, moved}
use Rattle.rules.specs.Validity.{Claim}
use Rattle.rules.specs.Text.{Fault, too_long, malformed, undue, Line, lines_of, wrong, right, due}
use Rattle.rules.specs.ScheduleText.{ScheduleLine, run_line, move_line, claim_line, schedule_line, run_of, move_of, claim_of, ScheduleRead, refused}
use Rattle.rules.specs.ScheduleText.{read_end_by, read_end, read_claim_by, read_moves_by, read_moves, read_runs_by, read_runs, read_schedule_by, read_schedule}
use Rattle.rules.specs.Promises.{First}
use Rattle.rules.specs.ScheduleFaults.{DueLine, run, move, claim, end, SoFar, before, behind, StillMoves, Due, next_run, next_move, lastly}
use Rattle.rules.specs.ScheduleFaults.{nothing, NotDue, other_task, move_for_run, claim_for_run, other_maker, other_reader, run_for_move, claim_for_move}
use Rattle.rules.specs.ScheduleFaults.{run_for_claim, move_for_claim, behind_claim, Taken, a_run, a_move, the_claim, FirstBad, absent, unread, another}
use Rattle.rules.specs.ScheduleFaults.{later, ScheduleFault, long, at_line, ScheduleFaults, TimetableExact}
use Rattle.rules.proofs.Tests.{split, clash, and_no}
use Rattle.rules.proofs.FormLaws.{none-some}
use Rattle.rules.proofs.ReadingLaws.{by-reading, length-snoc}
use Rattle.rules.proofs.ScheduleLineLaws.{run-taken, move_taken, claim-taken}
use Rattle.rules.proofs.TimetableLaws.{timetable-exact}

module _ (I : Instance) where
  -- ---- one line is due at a time

  same_first : (A : ℕ → Type 0) (m n : ℕ) → First A m → First A n → m ≡ n
  same_first A m n f g = omega (arith, f.least n g.holds, g.least m f.holds)

  one-due : {s : SoFar} {d e : DueLine} → Due I s d → Due I s e → d ≡ e
  one-due (next_run h) (next_run g) = refl
  one-due (next_run h) (next_move g f) = absurd (omega arith)
  one-due (next_run h) (lastly g n) = absurd (omega arith)
  one-due (next_move h f) (next_run g) = absurd (omega arith)
  one-due (next_move {runs} {files} h f) (next_move g e) = ap move (same_first (StillMoves I runs files) _ _ f e)
  one-due (next_move h f) (lastly g n) = absurd (n _ f.holds)
  one-due (lastly h n) (next_run g) = absurd (omega arith)
  one-due (lastly h n) (next_move g f) = absurd (n _ f.holds)
  one-due (lastly h n) (lastly g m) = refl
  one-due nothing nothing = refl

  -- ---- what the reader takes from a line, and what is not due

  abbrev move_for : ℕ → ScheduleLine → Option ℕ
  move_for k = move_of (suc (file_at I k).maker) (suc (file_at I k).reader)

  run-other : (i : ℕ) (x : ScheduleLine) → run_of (suc i) x ≡ none → NotDue I (run i) x
  run-other i (run_line j r) e = split (eqb j (suc i)) (λ q. none-some (sym (rw q at e))) (λ q. other_task i j r (eqb-false _ _ q))
  run-other i (move_line j l t) e = move_for_run i j l t
  run-other i (claim_line c) e = claim_for_run i c

  other-run : (i : ℕ) (x : ScheduleLine) → NotDue I (run i) x → run_of (suc i) x ≡ none
  other-run i _ (other_task _ j r h) = rw (ne_eqb _ _ h)
  other-run i _ (move_for_run _ j l t) = refl
  other-run i _ (claim_for_run _ c) = refl

  move-other : (k : ℕ) (x : ScheduleLine) → move_for k x ≡ none → NotDue I (move k) x
  move-other k (run_line i r) e = run_for_move k i r
  move-other k (move_line i j t) e = split (eqb i (suc (file_at I k).maker))
      (λ p. split (eqb j (suc (file_at I k).reader))
      (λ q. none-some (sym (rw (p, q) at e)))
      (λ q. other_reader k i j t (eqb-false _ _ q)))
      (λ p. other_maker k i j t (eqb-false _ _ p))
  move-other k (claim_line c) e = claim_for_move k c

  other-move : (k : ℕ) (x : ScheduleLine) → NotDue I (move k) x → move_for k x ≡ none
  other-move k _ (other_maker _ i j t h) = rw (ne_eqb _ _ h)
  other-move k _ (other_reader _ i j t h) = rw (ne_eqb _ _ h, and_no (eqb i (suc (file_at I k).maker)))
  other-move k _ (run_for_move _ i r) = refl
  other-move k _ (claim_for_move _ c) = refl

  claim-other : (x : ScheduleLine) → claim_of x ≡ none → NotDue I claim x
  claim-other (run_line i r) e = run_for_claim i r
  claim-other (move_line i j t) e = move_for_claim i j t
  claim-other (claim_line c) e = none-some (sym e)

  other-claim : (x : ScheduleLine) → NotDue I claim x → claim_of x ≡ none
  other-claim _ (run_for_claim i r) = refl
  other-claim _ (move_for_claim i j t) = refl

  -- ---- the places of the reader

  data Place : SoFar → Type 0 where
    at_run : {runs : List Run} (left : ℕ) → length runs + left ≡ task_count I → Place (before runs 0)
    at_move : {runs : List Run} {files : ℕ} (left : ℕ) (moves : List ℕ) → task_count I ≤ length runs → length moves ≡ files → files + left ≡ file_count I
        → Place (before runs files)
    at_end : (P : Schedule) (c : Claim) → Place behind

  abbrev read_at : {s : SoFar} → Place s → ℕ → List Line → ScheduleRead
  read_at (at_run {runs} left e) k ls = read_runs I left (record { runs = runs; moves = [] }) k ls
  read_at (at_move {runs} left moves h e f) k ls = read_moves I left (record { runs = runs; moves = moves }) k ls
  read_at (at_end P c) k ls = read_end I P c k ls

  -- a line is due of which f takes something, and `next` reads on
  abbrev on_lines : {A : Type 0} → (ScheduleLine → Option A) → (A → ℕ → List Line → ScheduleRead) → ℕ → List Line → ScheduleRead
  on_lines f next k [] = refused malformed k
  on_lines f next k (l ∷ ls) = elim (due f (schedule_line I l)) [ wrong w ↦ refused w k | right a ↦ next a (suc k) ls ]

  -- before the claim: the line due, and how the reader takes it
  record Turn (runs : List Run) (files : ℕ) (reads : ℕ → List Line → ScheduleRead) : Type 1 where
    What : Type 0
    takes : ScheduleLine → Option What
    line : DueLine
    is_due : Due I (before runs files) line
    other : (x : ScheduleLine) → takes x ≡ none → NotDue I line x
    refuses : (x : ScheduleLine) → NotDue I line x → takes x ≡ none
    next : What → SoFar
    place : (a : What) → Place (next a)
    taken : (x : ScheduleLine) (a : What) → takes x ≡ some a → Taken I (before runs files) line x (next a)
    given : (x : ScheduleLine) (t : SoFar) → Taken I (before runs files) line x t → (a : What) × (takes x ≡ some a) × (next a ≡ t)
    steps : (k : ℕ) (ls : List Line) → reads k ls ≡ on_lines takes (λ a. read_at (place a)) k ls

  -- ---- a run is due
  module _ (runs : List Run) (left : ℕ) (e : length runs + suc left ≡ task_count I) where
    run-steps : (k : ℕ) (ls : List Line) → read_runs I (suc left) (record { runs = runs; moves = [] }) k ls
        ≡ on_lines (run_of (suc (length runs))) (λ r. read_runs I left (record { runs = runs ++ (r ∷ []); moves = [] })) k ls
    unfolding read_runs_by
    run-steps k [] = refl
    run-steps k (l ∷ ls) =
        let z : task_count I - suc left ≡ length runs = omega arith in
        subst (λ n. read_runs I (suc left) (record { runs = runs; moves = [] }) k (l ∷ ls)
        ≡ on_lines (run_of (suc n)) (λ r. read_runs I left (record { runs = runs ++ (r ∷ []); moves = [] })) k (l ∷ ls)) z refl

    run-turn : Turn runs 0 (read_runs I (suc left) (record { runs = runs; moves = [] }))
    run-turn = record {
      What = Run;
      takes = run_of (suc (length runs));
      line = run (length runs);
      is_due = next_run {runs = runs} (omega arith);
      other = run-other (length runs);
      refuses = other-run (length runs);
      next = λ r. before (runs ++ (r ∷ [])) 0;
      place = λ r. at_run {runs = runs ++ (r ∷ [])} left (omega (arith, length-snoc runs r));
      taken = λ x r q. rw (run-taken (suc (length runs)) x r q) (a_run runs 0 (length runs) r);
      given = given;
      steps = run-steps;
    }
      where
        given : (x : ScheduleLine) (t : SoFar) → Taken I (before runs 0) (run (length runs)) x t
            → (r : Run) × (run_of (suc (length runs)) x ≡ some r) × (before (runs ++ (r ∷ [])) 0 ≡ t)
        given _ _ (a_run _ _ _ r) = (r, rw (eq-eqb (suc (length runs)) _ refl), refl)

  -- ---- the runs are read: the next move is due, or the claim
  module _ (runs : List Run) (done : task_count I ≤ length runs) where
    abbrev with_moves : List ℕ → Schedule
    with_moves moves = record { runs = runs; moves = moves }

    module _ (left : ℕ) (moves : List ℕ) (e : length moves + suc left ≡ file_count I) where
      at-file : file_count I - suc left ≡ length moves
      at-file = omega arith

      move-steps : moved I (with_moves []) (length moves) ≡ true → (k : ℕ) (ls : List Line) → read_moves I (suc left) (with_moves moves) k ls
          ≡ on_lines (move_for (length moves)) (λ t. read_moves I left (with_moves (moves ++ (t ∷ [])))) k ls
      unfolding read_moves_by
      move-steps m k [] = rw (at-file, m, read_moves_by)
      move-steps m k (l ∷ ls) =
          let m' : moved I (with_moves []) (file_count I - suc left) ≡ true = rw at-file m in
          subst (λ n. read_moves I (suc left) (with_moves moves) k (l ∷ ls)
          ≡ on_lines (move_for n) (λ t. read_moves I left (with_moves (moves ++ (t ∷ [])))) k (l ∷ ls)) at-file (rw (m', read_moves_by))

      move-passes : moved I (with_moves []) (length moves) ≡ false → (k : ℕ) (ls : List Line)
          → read_moves I (suc left) (with_moves moves) k ls ≡ read_moves I left (with_moves (moves ++ (0 ∷ []))) k ls
      unfolding read_moves_by
      move-passes m k ls = rw (at-file, m, read_moves_by)

    claim-steps : (moves : List ℕ) (k : ℕ) (ls : List Line) → read_moves I 0 (with_moves moves) k ls ≡ on_lines claim_of (read_end I (with_moves moves)) k ls
    unfolding read_moves_by read_claim_by
    claim-steps moves k [] = refl
    claim-steps moves k (l ∷ ls) = refl

    module _ (files : ℕ) where
      -- no file from these on, up to the reader's, moves
      abbrev Passed : List ℕ → Type 0
      Passed moves = (j : ℕ) → files ≤ j → j < length moves → moved I (with_moves []) j ≡ false

      move-turn : (left : ℕ) (moves : List ℕ) → files ≤ length moves → length moves + suc left ≡ file_count I → Passed moves
          → moved I (with_moves []) (length moves) ≡ true → Turn runs files (read_moves I (suc left) (with_moves moves))
      move-turn left moves b e p m = record {
        What = ℕ;
        takes = move_for (length moves);
        line = move (length moves);
        is_due = next_move done (record { holds = (b, omega arith, m); least = least });
        other = move-other (length moves);
        refuses = other-move (length moves);
        next = λ t. before runs (suc (length moves));
        place = λ t. at_move left (moves ++ (t ∷ [])) done (length-snoc moves t) (omega arith);
        taken = λ x t q. rw (move_taken _ _ x t q) (a_move runs files (length moves) t);
        given = given;
        steps = move-steps left moves e m;
      }
        where
          least : (j : ℕ) → StillMoves I runs files j → length moves ≤ j
          least j h = elim (dec_le (length moves) j) [ yes l ↦ l | no l ↦ clash h.2 (p j h.0 (omega arith)) ]

          given : (x : ScheduleLine) (t : SoFar) → Taken I (before runs files) (move (length moves)) x t
              → (u : ℕ) × (move_for (length moves) x ≡ some u) × (before runs (suc (length moves)) ≡ t)
          given _ _ (a_move _ _ _ t) =
              (t, rw (eq-eqb (suc (file_at I (length moves)).maker) _ refl, eq-eqb (suc (file_at I (length moves)).reader) _ refl), refl)

      claim-turn : (moves : List ℕ) → length moves ≡ file_count I → Passed moves → Turn runs files (read_moves I 0 (with_moves moves))
      claim-turn moves e p = record {
        What = Claim;
        takes = claim_of;
        line = claim;
        is_due = lastly done none_left;
        other = claim-other;
        refuses = other-claim;
        next = λ c. behind;
        place = λ c. at_end (with_moves moves) c;
        taken = λ x c q. rw (claim-taken x c q) (the_claim runs files c);
        given = given;
        steps = claim-steps moves;
      }
        where
          none_left : (k : ℕ) → StillMoves I runs files k → ⊥
          none_left k h = clash h.2 (p k h.0 (omega arith))

          given : (x : ScheduleLine) (t : SoFar) → Taken I (before runs files) claim x t → (c : Claim) × (claim_of x ≡ some c) × (behind ≡ t)
          given _ _ (the_claim _ _ c) = (c, refl, refl)

      turn_by : {one two : ℕ → List Line → ScheduleRead} → ((k : ℕ) (ls : List Line) → one k ls ≡ two k ls) → Turn runs files two → Turn runs files one
      turn_by e t = record {
        What = t.What;
        takes = t.takes;
        line = t.line;
        is_due = t.is_due;
        other = t.other;
        refuses = t.refuses;
        next = t.next;
        place = t.place;
        taken = t.taken;
        given = t.given;
        steps = λ k ls. e k ls ∙ t.steps k ls;
      }

      moves-turn : (left : ℕ) (moves : List ℕ) → files ≤ length moves → length moves + left ≡ file_count I → Passed moves
          → Turn runs files (read_moves I left (with_moves moves))
      moves-turn zero moves b e p = claim-turn moves (omega arith) p
      moves-turn (suc left) moves b e p = split (moved I (with_moves []) (length moves))
          (λ m. move-turn left moves b e p m)
          (λ m.
          let l : length (moves ++ (0 ∷ [])) ≡ suc (length moves) = length-snoc moves 0 in
          turn_by (move-passes left moves e m) (moves-turn left (moves ++ (0 ∷ [])) (omega arith) (omega arith) (passed m l)))
        where
          passed : moved I (with_moves []) (length moves) ≡ false → length (moves ++ (0 ∷ [])) ≡ suc (length moves) → Passed (moves ++ (0 ∷ []))
          passed m l j f h = elim (dec_le (length moves) j) [
            | yes g ↦ let z : length moves ≡ j = omega arith in rw z at m
            | no g ↦ p j f (omega arith)
          ]

  runs-read : (P : Schedule) (k : ℕ) (ls : List Line) → read_runs I 0 P k ls ≡ read_moves I (file_count I) P k ls
  unfolding read_runs_by
  runs-read P k ls = refl

  turn : {runs : List Run} {files : ℕ} (p : Place (before runs files)) → Turn runs files (read_at p)
  turn {runs} (at_run zero e) =
      turn_by runs (omega arith) 0 (runs-read (record { runs = runs; moves = [] }))
      (moves-turn runs (omega arith) 0 (file_count I) [] (omega arith) (omega arith) (λ j f h. absurd (omega arith)))
  turn {runs} (at_run (suc left) e) = run-turn runs left e
  turn {runs} {files} (at_move left moves h e f) = moves-turn runs h files left moves (omega arith) (omega arith) (λ j f g. absurd (omega arith))

  -- ---- one line at its turn
  module _ {runs : List Run} {files : ℕ} {reads : ℕ → List Line → ScheduleRead} (t : Turn runs files reads) (k : ℕ) (l : Line) (ls : List Line) where
    line-unread : (w : Fault) → schedule_line I l ≡ wrong w → reads k (l ∷ ls) ≡ refused w k
    line-unread w e =
        let d : due t.takes (schedule_line I l) ≡ wrong w = ap (due t.takes) e in
        t.steps k (l ∷ ls) ∙ rw (d, on_lines)

    line-undue : (x : ScheduleLine) → schedule_line I l ≡ right x → t.takes x ≡ none → reads k (l ∷ ls) ≡ refused undue k
    line-undue x e q =
        let d : due t.takes (schedule_line I l) ≡ wrong undue = ap (due t.takes) e ∙ rw q in
        t.steps k (l ∷ ls) ∙ rw (d, on_lines)

    line-next : (x : ScheduleLine) (a : t.What) → schedule_line I l ≡ right x → t.takes x ≡ some a → reads k (l ∷ ls) ≡ read_at (t.place a) (suc k) ls
    line-next x a e q =
        let d : due t.takes (schedule_line I l) ≡ right a = ap (due t.takes) e ∙ rw q in
        t.steps k (l ∷ ls) ∙ rw (d, on_lines)

  -- ---- from the refusal to the line at fault

  record Placed (s : SoFar) (k : ℕ) (ls : List Line) (w : Fault) (j : ℕ) : Type 0 where
    ahead : ℕ
    place : j ≡ k + ahead
    fault : FirstBad I s ls ahead w

  here : {s : SoFar} {k : ℕ} {ls : List Line} {v w : Fault} {j : ℕ} → FirstBad I s ls 0 v → refused v k ≡ refused w j → Placed s k ls w j
  here {s} {k} {ls} {v} {w} {j} b q =
      let x : v ≡ w = cc in
      let y : k ≡ j = cc in
      record { ahead = 0; place = omega arith; fault = subst (FirstBad I s ls 0) x b }

  end-bad : (P : Schedule) (c : Claim) (k : ℕ) (ls : List Line) (w : Fault) (j : ℕ) → read_end I P c k ls ≡ refused w j → Placed behind k ls w j
  unfolding read_end_by
  end-bad P c k [] w j e = let z : ◌≡◌ {A = ℕ} 0 1 = cc in absurd (omega arith)
  end-bad P c k (l ∷ ls) w j e =
      by-reading (schedule_line I l)
      (λ v d. here (unread d) (rw d at e))
      (λ x d. here (another end x nothing d (behind_claim x)) (rw d at e))

  first-bad : (ls : List Line) (s : SoFar) (p : Place s) (k : ℕ) (w : Fault) (j : ℕ) → read_at p k ls ≡ refused w j → Placed s k ls w j
  first-bad [] behind (at_end P c) k w j e = end-bad P c k [] w j e
  first-bad [] (before runs files) p k w j e = here absent (sym ((turn p).steps k []) ∙ e)
  first-bad (l ∷ ls) behind (at_end P c) k w j e = end-bad P c k (l ∷ ls) w j e
  first-bad (l ∷ ls) (before runs files) p k w j e = go (turn p) (λ s q. first-bad ls s q (suc k) w j)
    where
      go : Turn runs files (read_at p) → ((s : SoFar) (q : Place s) → read_at q (suc k) ls ≡ refused w j → Placed s (suc k) ls w j)
          → Placed (before runs files) k (l ∷ ls) w j
      go t ih = by-reading (schedule_line I l) (λ v d. here (unread d) (sym (line-unread t k l ls v d) ∙ e)) (λ x d. on x d (t.takes x) refl)
        where
          on : (x : ScheduleLine) → schedule_line I l ≡ right x → (o : Option t.What) → t.takes x ≡ o → Placed (before runs files) k (l ∷ ls) w j
          on x d none q = here (another t.line x t.is_due d (t.other x q)) (sym (line-undue t k l ls x d q) ∙ e)
          on x d (some a) q =
              let r = ih (t.next a) (t.place a) (sym (line-next t k l ls x a d q) ∙ e) in
              let m : j ≡ suc k + r.ahead = r.place in
              record { ahead = suc r.ahead; place = omega arith; fault = later t.line x (t.next a) t.is_due d (t.taken x a q) r.fault }

  -- ---- from the line at fault to the refusal

  here-too : (w : Fault) (k : ℕ) → refused w k ≡ refused w (k + 0)
  here-too w k = let z : k ≡ k + 0 = omega arith in ap (refused w) z

  bad-end : (P : Schedule) (c : Claim) (k : ℕ) (ls : List Line) (n : ℕ) (w : Fault) → FirstBad I behind ls n w → read_end I P c k ls ≡ refused w (k + n)
  unfolding read_end_by
  bad-end P c k _ _ w (unread d) = rw d (here-too w k)
  bad-end P c k _ _ _ (another d x h e q) = rw e (here-too undue k)
  bad-end P c k _ _ w (later {l = l} {ls = ls} {n = n} d _ next _ _ h _) = elim h [ ]

  bad-none : {runs : List Run} {files : ℕ} (p : Place (before runs files)) (k n : ℕ) (w : Fault) → FirstBad I (before runs files) [] n w
      → read_at p k [] ≡ refused w (k + n)
  bad-none p k _ _ absent = (turn p).steps k [] ∙ here-too malformed k

  bad-first : (ls : List Line) (s : SoFar) (p : Place s) (k n : ℕ) (w : Fault) → FirstBad I s ls n w → read_at p k ls ≡ refused w (k + n)
  bad-first [] behind (at_end P c) k n w b = bad-end P c k [] n w b
  bad-first [] (before runs files) p k n w b = bad-none p k n w b
  bad-first (l ∷ ls) behind (at_end P c) k n w b = bad-end P c k (l ∷ ls) n w b
  bad-first (l ∷ ls) (before runs files) p k n w b = go (turn p) n w b (λ s q m v. bad-first ls s q (suc k) m v)
    where
      go : Turn runs files (read_at p) → (n : ℕ) (w : Fault) → FirstBad I (before runs files) (l ∷ ls) n w
          → ((s : SoFar) (q : Place s) (m : ℕ) (v : Fault) → FirstBad I s ls m v → read_at q (suc k) ls ≡ refused v (suc k + m))
          → read_at p k (l ∷ ls) ≡ refused w (k + n)
      go t _ w (unread d) ih = line-unread t k l ls w d ∙ here-too w k
      go t _ _ (another d x h e q) ih =
          let o = t.refuses x (subst (λ c. NotDue I c x) (one-due h t.is_due) q) in
          line-undue t k l ls x e o ∙ here-too undue k
      go t _ w (later {n = m} d x next h e q b) ih =
          let (a, o, r) = t.given x next (subst (λ c. Taken I (before runs files) c x next) (one-due h t.is_due) q) in
          let z : suc k + m ≡ k + suc m = omega arith in
          line-next t k l ls x a e o ∙ ih (t.next a) (t.place a) m w (subst (λ s. FirstBad I s ls m w) (sym r) b) ∙ ap (refused w) z

  -- ---- all lines

  abbrev start : Place (before [] 0)
  start = at_run {runs = []} (task_count I) (omega arith)

  module _ (bs : List ℕ) where
    read-long : max_text < length bs → read_schedule I bs ≡ refused too_long 0
    unfolding read_schedule_by
    read-long h = rw (lt-leb _ _ h, read_schedule_by)

    read_short : length bs ≤ max_text → read_schedule I bs ≡ read_at start 1 (lines_of bs)
    unfolding read_schedule_by
    read_short h = rw (le-leb _ _ h, read_schedule_by)

    fault-refused : (w : Fault) (k : ℕ) → ScheduleFault I bs w k → read_schedule I bs ≡ refused w k
    fault-refused _ _ (long h) = read-long h
    fault-refused _ _ (at_line n w h f) =
        let z : 1 + n ≡ suc n = omega arith in read_short h ∙ bad-first (lines_of bs) (before [] 0) start 1 n w f ∙ ap (refused w) z

    refused-fault : (w : Fault) (k : ℕ) → read_schedule I bs ≡ refused w k → ScheduleFault I bs w k
    refused-fault w k e = split (leb (length bs) max_text)
        (λ s.
        let m = leb-true _ _ s in
        let x = first-bad (lines_of bs) (before [] 0) start 1 w k (sym (read_short m) ∙ e) in
        let p : suc x.ahead ≡ k = omega (arith, x.place) in
        subst (ScheduleFault I bs w) p (at_line x.ahead w m x.fault))
        (λ s.
        let m = leb-false _ _ s in
        let q : refused too_long 0 ≡ refused w k = sym (read-long m) ∙ e in
        let x : too_long ≡ w = cc in
        let y : 0 ≡ k = cc in
        subst (λ v. ScheduleFault I bs v k) x (subst (ScheduleFault I bs too_long) y (long m)))

pub schedule_faults : ScheduleFaults
schedule_faults I bs w k = (refused-fault I bs w k, fault-refused I bs w k)

pub timetable_exact : TimetableExact
timetable_exact = timetable-exact
