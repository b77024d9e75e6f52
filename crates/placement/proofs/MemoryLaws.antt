-- The changes of a placing, made one after the other on the memories' staircases.
use Prim.Native.Nat.{ℕ, zero, suc, ◌+◌, ◌-◌, ◌≤◌, ◌<◌, max}
use mathlib.Core.Bool.{Bool, true, false, cond}
use mathlib.Core.List.{List, [], ◌∷◌, ◌++◌, append-nil}
use mathlib.Core.Path.{◌≡◌, refl, ap, ◌∙◌}
use native.Mathlib.Omega.{arith}
use lib.ListN.{length}
use borrow.Author.Tests.{lt-ltb, le-ltb}
use Rattle.rules.specs.Limits.{max_pairs}
use Rattle.rules.specs.Model.{Colour, blue, red, same_colour, time_on, task_at, Instance, Schedule, size_at, move_time_at}
use Rattle.rules.specs.Scheduling.{reads, crossing}
use Rattle.rules.specs.Changes.{Change}
use Rattle.rules.specs.Staircase.{Step, steps_after, release_on, moves_in, change_if, own_changes, other_changes}
use Rattle.rules.proofs.Tests.{split}
use Rattle.model.specs.declared.job.Job.{Job}
use Rattle.model.specs.declared.layout.Schedule.{Schedule as StoredSchedule}
use Rattle.model.specs.declared.trial.Trial.{Trial}
use Rattle.model.specs.Jobs.{instance_in, schedule_of}
use Rattle.model.specs.declared.colour.Colour as Code
use Rattle.model.specs.declared.colour.Colour.TheVariants.{Blue, Red}
use Rattle.model.specs.declared.crossing.Cost.{Cost}
use Rattle.model.specs.Colours.{as_colour}
use Rattle.model.specs.Costs.{CostOf}
use Rattle.model.proofs.JobLaws.{files-in, file-in}
use Rattle.links.specs.Chains.{NextOf}
use Rattle.staircase.specs.Steps.{change_by, Fits}
use Rattle.staircase.specs.Stairs.{Pending, Made}
use Rattle.staircase.proofs.ChangesLaws.{pending-requires, pending-front, pending-after, made_none, made_one, made_then}
use Rattle.placement.specs.declared.memory.Sizes.{Sizes}
use Rattle.placement.specs.Memory.{SizesOf, moves_of, own_of, changes_in}
use Rattle.placement.proofs.MoveLaws.{not-read}

-- ---- a change, or none

module _ {xs ys : List Change} (e : xs ≡ ys) {ss : List Step} where
  pub pending-is : Pending xs ss → Pending ys ss
  pending-is Q = rw e at Q

  pub made-is : {ss' : List Step} → Made ys ss ss' → Made xs ss ss'
  made-is m = rw e m

-- xs is the change y alone
module _ {xs : List Change} {y : Change} (alone : xs ≡ y ∷ []) {ss : List Step} where
  pub one-requires : Pending xs ss → (length ss < max_pairs) × Fits ss y
  one-requires Q = pending-requires (pending-is alone Q)

  pub one-made : {ss' : List Step} → ss' ≡ steps_after y ss → length ss' ≤ length ss + 1 → Made xs ss ss'
  one-made e l = made-is alone (made_one y ss e l)

pub none_made : {xs : List Change} → xs ≡ [] → (ss : List Step) → Made xs ss ss
none_made e ss = made-is e (made_none ss)

module _ (tick : ℕ) (rises : Bool) (amount : ℕ) where
  pub change-some : 0 < amount → change_if tick rises amount ≡ change_by tick amount rises ∷ []
  change-some l = rw (lt-ltb 0 amount l)

  pub change-none : amount ≤ 0 → change_if tick rises amount ≡ []
  change-none l = rw (le-ltb 0 amount l)

-- a file that crosses or not, whose move then takes so long, and of which then so much is newly held
some_in : (y : Bool) (m z s t h d : ℕ) → t ≡ cond y m 0 → h ≡ cond y z 0 → d ≡ s - t → 0 < t
    → cond y (change_by (s - m) z true ∷ []) [] ≡ change_by d h true ∷ []
some_in true m z s t h d e g f l = rw (f, e, g)
some_in false m z s t h d e g f l = absurd (omega arith)

none_in : (y : Bool) (m z s t : ℕ) → 1 ≤ m → t ≡ cond y m 0 → t ≤ 0 → cond y (change_by (s - m) z true ∷ []) [] ≡ []
none_in true m z s t l e g = absurd (omega arith)
none_in false m z s t l e g = refl

-- ---- a placing

module _ (j : Job) (schedule : StoredSchedule) (x : Trial) where
  abbrev I : Instance
  I = instance_in j

  abbrev P : Schedule
  P = schedule_of j schedule

  abbrev crosses : ℕ → Bool
  crosses = crossing I P x.task (as_colour x.colour)

  abbrev moves : ℕ → ℕ → List Change
  moves = moves_of j schedule x

  -- ---- one file

  moves-one : (k : ℕ) → moves k 1 ≡ cond (crosses k) (change_by (x.start - move_time_at I k) (size_at I k) true ∷ []) []
  unfolding moves_in
  moves-one k = refl

  module _ {k : ℕ} {y : Cost} (cost : CostOf I P x.task (as_colour x.colour) k y) where
    pub moves-some : {d : ℕ} → d ≡ x.start - y.move_time → 0 < y.move_time → moves k 1 ≡ change_by d y.newly_held true ∷ []
    moves-some {d} e l = moves-one k
        ∙ some_in (crosses k) (move_time_at I k) (size_at I k) x.start y.move_time y.newly_held d cost.move_time cost.newly_held e l

    pub moves-none : k < (length j.files.now) → y.move_time ≤ 0 → moves k 1 ≡ []
    moves-none h l =
        let m : 1 ≤ move_time_at I k = omega (arith, (j.in_bounds.move_time k h).least, ap (λ f. f.move_time) (file-in j k)) in
        moves-one k ∙ none_in (crosses k) (move_time_at I k) (size_at I k) x.start y.move_time m cost.move_time l

  -- ---- some files, then others

  moves-split : (a k m : ℕ) → moves a (k + m) ≡ moves a k ++ moves (a + k) m
  unfolding moves_in
  moves-split a zero m = let e : a + 0 ≡ a = omega arith in let f : 0 + m ≡ m = omega arith in rw (e, f)
  moves-split a (suc k) m =
      let e : a + suc k ≡ suc a + k = omega arith in
      let f : suc k + m ≡ suc (k + m) = omega arith in
      let rest = moves-split (suc a) k m in
      split (crosses a) (λ y. rw (e, f, y, rest)) (λ y. rw (e, f, y, rest))

  moves-first : (k m : ℕ) → moves 0 (k + m) ≡ moves 0 k ++ moves k m
  moves-first k m = let z : 0 + k ≡ k = omega arith in rw z at (moves-split 0 k m)

  -- past files that do not cross
  moves-empty : (k m : ℕ) → ((j : ℕ) → k ≤ j → j < k + m → crosses j ≡ false) → moves k m ≡ []
  unfolding moves_in
  moves-empty k zero h = refl
  moves-empty k (suc m) h = rw (h k (omega arith) (omega arith)) (moves-empty (suc k) m (λ j a l. h j (omega arith) (omega arith)))

  moves-skip : (k r : ℕ) → k ≤ r → ((j : ℕ) → k ≤ j → j < r → crosses j ≡ false) → moves 0 r ≡ moves 0 k
  moves-skip k r l h =
      let e : r ≡ k + (r - k) = omega arith in
      ap (moves 0) e ∙ moves-first k (r - k) ∙ rw (moves-empty k (r - k) (λ j a m. h j a (omega arith))) (append-nil (moves 0 k))

  -- ---- along the chain of the files that the task reads: those below k have moved in

  module _ {ss : List Step} where
    pub walk-begin : {m r : ℕ} → NextOf m (reads I x.task) 0 r → Made (moves 0 r) ss ss
    walk-begin {r = r} head =
        made-is (moves-empty 0 r (λ j a l. not-read I P x.task (as_colour x.colour) j (head.passed j a (omega arith)))) (made_none ss)

    module _ {ss' : List Step} {k : ℕ} (done : Made (moves 0 k) ss ss') where
      pub walk-requires : {m : ℕ} → k < m → Pending (moves 0 m) ss → Pending (moves k 1) ss'
      walk-requires {m} l Q =
          let d : ℕ = m - suc k in
          let e : m ≡ k + (1 + d) = omega arith in
          let all : moves 0 m ≡ moves 0 k ++ (moves k 1 ++ moves (k + 1) d) =
          ap (moves 0) e ∙ moves-first k (1 + d) ∙ ap (λ ys. moves 0 k ++ ys) (moves-split k 1 d) in
          pending-front (moves k 1) (moves (k + 1) d) (pending-after (moves 0 k) (moves k 1 ++ moves (k + 1) d) (pending-is all Q) done)

      pub walk_turn : {m r : ℕ} {ss'' : List Step} → NextOf m (reads I x.task) (suc k) r → Made (moves k 1) ss' ss''
          → Made (moves 0 r) ss ss''
      walk_turn {r = r} behind one =
          let e : suc k ≡ k + 1 = omega arith in
          let more : moves 0 (suc k) ≡ moves 0 k ++ moves k 1 = ap (moves 0) e ∙ moves-first k 1 in
          let skip = moves-skip (suc k) r behind.from (λ j a l. not-read I P x.task (as_colour x.colour) j (behind.passed j a l)) in
          made-is (skip ∙ more) (made_then done one)

  -- ---- its own memory, and the other

  module _ {y : Sizes} (sizes : SizesOf I P x y) where
    -- it runs so long from its start, and is then released
    module _ (inside : x.task < (length j.tasks.now)) {time release : ℕ} (takes : time ≡ time_on (as_colour x.colour) (task_at I x.task))
        (until : release ≡ max (x.start + time) (x.start + 1)) where
      abbrev moved : List Change
      moved = moves 0 (length j.files.now)

      abbrev begun : List Change
      begun = change_if x.start true y.room

      abbrev released : List Change
      released = change_if release false y.kept

      own_is : own_of j schedule x ≡ (moved ++ begun) ++ released
      unfolding own_changes
      own_is =
          let e : release ≡ release_on I x.task (as_colour x.colour) x.start = omega arith in
          rw (files-in j, sizes.room, sizes.kept, e)

      module _ {ss : List Step} (Q : Pending (own_of j schedule x) ss) where
        whole : Pending ((moved ++ begun) ++ released) ss
        whole = pending-is own_is Q

        pub occupy-moves : Pending moved ss
        occupy-moves = pending-front moved begun (pending-front (moved ++ begun) released whole)

        module _ {ss₁ : List Step} (first : Made moved ss ss₁) where
          pub occupy-begins : Pending begun ss₁
          occupy-begins = pending-after moved begun (pending-front (moved ++ begun) released whole) first

          module _ {ss₂ : List Step} (second : Made begun ss₁ ss₂) where
            pub occupy-releases : Pending released ss₂
            occupy-releases = pending-after (moved ++ begun) released whole (made_then first second)

            pub occupied : {ss₃ : List Step} → Made released ss₂ ss₃ → Made (own_of j schedule x) ss ss₃
            occupied third = made-is own_is (made_then (made_then first second) third)

    -- memory d is its own, or the other
    pub in-own : (d : Colour) → same_colour (as_colour x.colour) d ≡ true → changes_in d j schedule x ≡ own_of j schedule x
    in-own d e = rw e

    pub in-other : (d : Colour) → same_colour (as_colour x.colour) d ≡ false → changes_in d j schedule x ≡ change_if x.start false y.incoming
    unfolding other_changes
    in-other d e = rw (e, sizes.incoming)

-- on blue, and on red
pub same-blue : {y : Code.Colour} → y ≡ Blue → (same_colour (as_colour y) blue ≡ true) × (same_colour (as_colour y) red ≡ false)
same-blue e = rw e (refl, refl)

pub same-red : {y : Code.Colour} → y ≡ Red → (same_colour (as_colour y) blue ≡ false) × (same_colour (as_colour y) red ≡ true)
same-red e = rw e (refl, refl)
