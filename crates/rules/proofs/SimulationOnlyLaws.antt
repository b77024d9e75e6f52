-- One answer meets the contract's record of the simulator: simulated_only.
use Prim.Native.Nat.{ℕ, zero, suc, ◌+◌, ◌≤◌, ◌<◌, min}
use mathlib.Core.Bool.{Bool, true}
use mathlib.Core.Path.{◌≡◌, refl, sym, ◌∙◌}
use native.Mathlib.Omega.{arith}
use lib.ListN.{get_or}
use lib.Seq.{ext_get_or}
use Rattle.rules.specs.Count.{count_where}
use Rattle.rules.specs.Limits.{max_files, all_processors, max_steps}
use Rattle.rules.specs.Model.{Colour, blue, red, Instance, Schedule}
use Rattle.rules.specs.Validity.{Claim}
use Rattle.rules.specs.Text.{in_sheet, in_timetable}
use Rattle.rules.specs.Calls.{mark}
use Rattle.rules.specs.Promises.{WellFormed, Spellable}
use Rattle.rules.specs.Simulation.{State, memory_number, Progress, Simulation, watch, simulate}
use Rattle.rules.specs.SimulationPromises.{is_in, Shows, Nth, Stepped, Progresses, is_of_text}
use Rattle.rules.specs.SimulationExact.{SimulatedOnly}
use Rattle.rules.proofs.Tests.{same_test}
use Rattle.rules.proofs.WhereLaws.{count-least}
use Rattle.rules.proofs.MarkerLaws.{mark-sheet, mark-timetable}
use Rattle.rules.proofs.WatchLaws.{Ends, walks, stops, goes, ends, progress, watch-progress, step_law}
use Rattle.rules.proofs.ProgressLaws.{progress_law}
use Rattle.rules.proofs.SimulatorLaws.{Texts, bad_sheet, bad_timetable, good, texts, simulate-read, sheet-formed, read-spellable, text-number, text_law}

-- ---- a tick by its number

nth-unique : (A : ℕ → Bool) (n t u : ℕ) → Nth A n t → Nth A n u → t ≡ u
nth-unique A n t u x y =
    let same : count_where t A ≡ count_where u A = x.below ∙ sym y.below in
    omega (arith, count-least A t u y.holds (omega arith), count-least A u t x.holds (omega arith))

-- ---- the state of a tick

-- numbers that have the same predecessors
same_number : (m n : ℕ) → ((i : ℕ) → m ≡ suc i → n ≡ suc i) → ((i : ℕ) → n ≡ suc i → m ≡ suc i) → m ≡ n
same_number zero zero f g = refl
same_number zero (suc n) f g = g n refl
same_number (suc m) n f g = sym (f m refl)

number_is : (n : ℕ) → n ≤ 3 → n ≡ memory_number (is_in blue n) (is_in red n)
number_is zero l = refl
number_is (suc zero) l = refl
number_is (suc (suc zero)) l = refl
number_is (suc (suc (suc zero))) l = refl
number_is (suc (suc (suc (suc n)))) l = absurd (omega arith)

module _ (I : Instance) (P : Schedule) (t : ℕ) (s r : State) (x : Shows I P t s) (y : Shows I P t r) where
  same-running : (p : ℕ) → p < all_processors → get_or s.running p 0 ≡ get_or r.running p 0
  same-running p l = same_number _ _ (λ i h. (y.runs p i l).1 ((x.runs p i l).0 h)) (λ i h. (x.runs p i l).1 ((y.runs p i l).0 h))

  same-held : (c : Colour) (k : ℕ) → k < max_files → is_in c (get_or s.contents k 0) ≡ is_in c (get_or r.contents k 0)
  same-held c k l = same_test _ _ (λ h. (y.holds c k l).1 ((x.holds c k l).0 h)) (λ h. (x.holds c k l).1 ((y.holds c k l).0 h))

  same-contents : (k : ℕ) → k < max_files → get_or s.contents k 0 ≡ get_or r.contents k 0
  same-contents k l =
      number_is _ (x.numbers k l) ∙ (λ i. memory_number (same-held blue k l i) (same-held red k l i)) ∙ sym (number_is _ (y.numbers k l))

  shows-unique : s ≡ r
  shows-unique =
      let time : s.time ≡ r.time = x.time ∙ sym y.time in
      let running : s.running ≡ r.running =
      ext_get_or 0 s.running r.running (x.processors ∙ sym y.processors) (λ p l. same-running p (omega (arith, x.processors))) in
      let contents : s.contents ≡ r.contents =
      ext_get_or 0 s.contents r.contents (x.files ∙ sym y.files) (λ k l. same-contents k (omega (arith, x.files))) in
      λ i. record { time = time i; running = running i; contents = contents i }

module _ (I : Instance) (P : Schedule) (a b : Simulation) where
  state-same : Stepped I P a → Stepped I P b → a.made ≡ b.made → a.state ≡ b.state
  state-same x y e = go b.made refl
    where
      go : (n : ℕ) → b.made ≡ n → a.state ≡ b.state
      go zero q = x.none (e ∙ q) ∙ sym (y.none q)
      go (suc n) q =
          let v = x.some n (e ∙ q) in
          let w = y.some n q in
          let t : v.0 ≡ w.0 = nth-unique _ n _ _ v.1 w.1 in
          shows-unique I P w.0 a.state b.state (rw t at v.2) w.2

  -- ---- how it ends

  -- each 'exactly if' carries what the one says over to the other
  progress-same : (w : ℕ) → Progresses I P w a → Progresses I P w b → {c : Progress} → Ends I P w c → b.progress ≡ c
      → (a.progress ≡ b.progress) × (a.made ≡ b.made)
  progress-same w x y (walks e l) q = let p = x.left.1 (y.left.0 q) in (p ∙ sym q, x.left_made p ∙ sym (y.left_made q))
  progress-same w x y (goes e l) q = let p = x.left.1 (y.left.0 q) in (p ∙ sym q, x.left_made p ∙ sym (y.left_made q))
  progress-same w x y (stops e l) q = let p = (x.stop _ _).1 ((y.stop _ _).0 q) in (p ∙ sym q, x.stop_made _ _ p ∙ sym (y.stop_made _ _ q))
  progress-same w x y (ends e l) q = let p = (x.end _).1 ((y.end _).0 q) in (p ∙ sym q, x.end_made _ p ∙ sym (y.end_made _ q))

watch-only : (I : Instance) → WellFormed I → (P : Schedule) (claim : Claim) → Spellable I P claim → (w : ℕ) (a : Simulation) → Stepped I P a → Progresses I P w a
    → a ≡ watch I P w
watch-only I W P claim s w a x y =
    let b = watch I P w in
    let e = progress-same I P a b w y (progress_law I W P claim s w) (progress I P w) (watch-progress I P w) in
    let q : a.state ≡ b.state = state-same I P a b x (step_law I W P claim s w) e.1 in
    λ i. record { progress = e.0 i; made = e.1 i; state = q i }

pub simulated_only : SimulatedOnly
simulated_only sheet timetable made steps a x = go (texts sheet timetable)
  where
    go : Texts sheet timetable → a ≡ simulate sheet timetable made steps
    go (bad_sheet w k e) =
        let h : is_of_text (mark sheet timetable).number ≡ true = rw (mark-sheet sheet timetable w k e) (text-number in_sheet w) in
        x.of_text h ∙ sym (text_law sheet timetable made steps h)
    go (bad_timetable I w k e f) =
        let h : is_of_text (mark sheet timetable).number ≡ true = rw (mark-timetable sheet timetable I w k e f) (text-number in_timetable w) in
        x.of_text h ∙ sym (text_law sheet timetable made steps h)
    go (good I P c e f) =
        watch-only I (sheet-formed sheet timetable I P c e f) P c (read-spellable sheet timetable I P c e f) (made + min steps max_steps) a
        (x.stepped I P c e f) (x.progress I P c e f)
        ∙ sym (simulate-read sheet timetable I P c e f made steps)
