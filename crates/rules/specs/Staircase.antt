-- A memory's free amount as a staircase: document 02, Order 9.
use Rattle.std.specs.Prelude.{ℕ, zero, suc, ◌+◌, ◌-◌, ◌≤◌, ◌<◌, max, pred, Bool, true, false, cond, ◌&&◌, List, [], ◌∷◌, ◌++◌, ◌≡◌, length, get_or, leb, ltb, eqb}
use Rattle.std.proofs.Math.Option.{Option, none, some}
use Rattle.rules.specs.Count.{sum_where, settled_from, min_up_to}
use Rattle.rules.specs.Limits.{max_pairs}
use Rattle.rules.specs.Model.{Colour, same_colour, Instance, limit_of, work_at, file_count, size_at, move_time_at, Schedule}
use Rattle.rules.specs.Residency.{held, horizon}
use Rattle.rules.specs.Scheduling.{aware, Partial, empty, free_from, assign, reads, makes, crossing, crossing_size, output_size, finish_on, move_with}
use Rattle.rules.specs.Promises.{WellFormed, Trial}
use Rattle.rules.specs.Changes.{Change}

-- document 02's pair: a tick, and the amount free from there on
pub record Step : Type 0 where
  pub tick : ℕ
  pub free : ℕ

abbrev pub step_at : List Step → ℕ → Step
step_at xs k = get_or xs k (record { tick = 0; free = 0 })

-- tick t stands on step k: the last step at or before it
pub record StandsOn (xs : List Step) (t k : ℕ) : Type 0 where
  pub exists : k < length xs
  pub begun : (step_at xs k).tick ≤ t
  pub goes_on : suc k < length xs → t < (step_at xs (suc k)).tick

-- xs is the staircase of f: the first step at tick 0, ascending, no two neighbours equal, and at each tick f is what its step says
pub record Staircase (f : ℕ → ℕ) (xs : List Step) : Type 0 where
  pub one : 0 < length xs
  pub first : (step_at xs 0).tick ≡ 0
  pub ascending : (k : ℕ) → suc k < length xs → (step_at xs k).tick < (step_at xs (suc k)).tick
  pub differ : (k : ℕ) → suc k < length xs → (step_at xs k).free ≡ (step_at xs (suc k)).free → ⊥
  pub level : (t k : ℕ) → StandsOn xs t k → (step_at xs k).free ≡ f t

-- ---- what the hold rule gives

-- what memory c has free at tick t
unfoldable pub free_at : Instance → Schedule → Colour → ℕ → ℕ
free_at I P c t = limit_of I c - held I P c t

-- a step at tick 0 and at each tick up to n at which f differs from the tick before
unfoldable pub steps_up_to : (ℕ → ℕ) → ℕ → List Step
steps_up_to f zero = record { tick = 0; free = f 0 } ∷ []
steps_up_to f (suc n) = cond (eqb (f n) (f (suc n))) (steps_up_to f n) (steps_up_to f n ++ (record { tick = suc n; free = f (suc n) } ∷ []))

unfoldable pub stairs : Instance → Schedule → Colour → List Step
stairs I P c = steps_up_to (free_at I P c) (horizon I P c)

-- ---- starts 3 and 4, read from a staircase

abbrev pub suffices : List Step → ℕ → ℕ → Bool
suffices xs need k = leb need (step_at xs k).free

-- the tick of the first step from which on every step has `need` free, if the last one has
unfoldable pub free_from_steps : List Step → ℕ → Option ℕ
free_from_steps xs need =
    let k = settled_from (length xs) (suffices xs need) in
    cond (ltb k (length xs)) (some (step_at xs k).tick) none

-- ---- the peak, read from a staircase

-- the least amount of the steps
unfoldable pub least_free : List Step → ℕ
least_free xs = min_up_to (pred (length xs)) (λ k. (step_at xs k).free)

-- ---- how a placing changes it

-- the amount free after a change of what is held
abbrev pub free_by : Change → ℕ → ℕ
free_by x free = cond x.rises (free - x.amount) (free + x.amount)

-- from its tick on
abbrev pub free_after : Change → (ℕ → ℕ) → ℕ → ℕ
free_after x f t = cond (leb x.tick t) (free_by x (f t)) (f t)

-- the steps of a list, each changed
unfoldable pub steps_shifted : Change → List Step → List Step
steps_shifted x [] = []
steps_shifted x (s ∷ ss) = record { tick = s.tick; free = free_by x s.free } ∷ steps_shifted x ss

-- a step in front of a list, unless it has the amount free before it
abbrev pub step_if_new : ℕ → Step → List Step → List Step
step_if_new before s ss = cond (eqb before s.free) ss (s ∷ ss)

-- the steps behind one with so much free, after a change at a later tick than its own
unfoldable pub steps_behind : Change → ℕ → List Step → List Step
steps_behind x before [] = step_if_new before (record { tick = x.tick; free = free_by x before }) []
steps_behind x before (s ∷ ss) =
    cond (ltb s.tick x.tick)
    (s ∷ steps_behind x s.free ss)
    (cond (eqb s.tick x.tick)
    (step_if_new before (record { tick = s.tick; free = free_by x s.free }) (steps_shifted x ss))
    (step_if_new before (record { tick = x.tick; free = free_by x before }) (steps_shifted x (s ∷ ss))))

-- a staircase after a change: a step at its tick, all from there on changed, and no two neighbours equal
unfoldable pub steps_after : Change → List Step → List Step
steps_after x [] = []
steps_after x (s ∷ ss) = cond (eqb x.tick 0) (steps_shifted x (s ∷ ss)) (s ∷ steps_behind x s.free ss)

-- and after several, one after the other
unfoldable pub steps_after_all : List Change → List Step → List Step
steps_after_all [] ss = ss
steps_after_all (x ∷ xs) ss = steps_after_all xs (steps_after x ss)

-- until when task i, placed on colour c at a start, keeps the files that it reads and its working memory
abbrev pub release_on : Instance → ℕ → Colour → ℕ → ℕ
release_on I i c start = max (finish_on I i c start) (suc start)

-- what placing task i on colour c at a start changes in memory d because of file k
abbrev pub file_changes : Instance → Schedule → ℕ → Colour → ℕ → Colour → ℕ → List Change
file_changes I P i c start d k =
    let rise : ℕ → Change = λ t. record { tick = t; rises = true; amount = size_at I k } in
    let fall : ℕ → Change = λ t. record { tick = t; rises = false; amount = size_at I k } in
    cond (reads I i k)
    (cond (crossing I P i c k)
    -- it moves: in from the move's start until the release; out of its maker's memory at the move's end
    (cond (same_colour c d) (rise (move_with I P i c start k) ∷ fall (release_on I i c start) ∷ []) (fall start ∷ []))
    -- it is there already, until the release
    (cond (same_colour c d) (fall (release_on I i c start) ∷ []) []))
    -- it is made
    (cond (makes I i k && same_colour c d) (rise start ∷ []) [])

-- because of the files below n
unfoldable pub files_changes : Instance → Schedule → ℕ → Colour → ℕ → Colour → ℕ → List Change
files_changes I P i c start d zero = []
files_changes I P i c start d (suc k) = files_changes I P i c start d k ++ file_changes I P i c start d k

-- because of its working memory
abbrev pub work_changes : Instance → ℕ → Colour → ℕ → Colour → List Change
work_changes I i c start d =
    cond (same_colour c d && ltb 0 (work_at I i))
    (record { tick = start; rises = true; amount = work_at I i } ∷ record { tick = release_on I i c start; rises = false; amount = work_at I i } ∷ [])
    []

-- all that it changes there
unfoldable pub placing_changes : Instance → Schedule → ℕ → Colour → ℕ → Colour → List Change
placing_changes I P i c start d = files_changes I P i c start d (file_count I) ++ work_changes I i c start d

-- ---- the same, with changes of one tick taken together

-- all that task i reads
unfoldable pub input_size : Instance → ℕ → ℕ
input_size I i = sum_where (file_count I) (reads I i) (size_at I)

-- what the moves of its crossing files bring in, of m files from the k-th on
unfoldable pub moves_in : Instance → Schedule → ℕ → Colour → ℕ → ℕ → ℕ → List Change
moves_in I P i c start k zero = []
moves_in I P i c start k (suc m) =
    cond (crossing I P i c k)
    (record { tick = start - move_time_at I k; rises = true; amount = size_at I k } ∷ moves_in I P i c start (suc k) m)
    (moves_in I P i c start (suc k) m)

-- a change, unless it is of nothing
abbrev pub change_if : ℕ → Bool → ℕ → List Change
change_if tick rises amount = cond (ltb 0 amount) (record { tick = tick; rises = rises; amount = amount } ∷ []) []

-- in the task's own memory: its crossing files come in, each from its own move's start; what it makes and its working memory from its start; all that it
-- reads and its working memory go at its release
unfoldable pub own_changes : Instance → Schedule → ℕ → Colour → ℕ → List Change
own_changes I P i c start =
    moves_in I P i c start 0 (file_count I)
    ++ change_if start true (output_size I i + work_at I i)
    ++ change_if (release_on I i c start) false (input_size I i + work_at I i)

-- in the other memory: its crossing files go, all at its start, when their moves end
unfoldable pub other_changes : Instance → Schedule → ℕ → Colour → ℕ → List Change
other_changes I P i c start = change_if start false (crossing_size I P i c)

abbrev pub grouped_changes : Instance → Schedule → ℕ → Colour → ℕ → Colour → List Change
grouped_changes I P i c start d = cond (same_colour c d) (own_changes I P i c start) (other_changes I P i c start)

-- ---- the promises

-- a partial timetable that placings lead to
pub data Placed (I : Instance) : Partial → Type 0 where
  unplaced : Placed I (empty I)
  placed : {Q : Partial} (i : ℕ) (c : Colour) (s : ℕ) → Placed I Q → Trial aware I Q i c s → Placed I (assign I Q i c s)

-- a function has one staircase
abbrev pub StaircaseUnique : Type 0
StaircaseUnique = (f : ℕ → ℕ) (xs ys : List Step) → Staircase f xs → Staircase f ys → xs ≡ ys

-- the hold rule's is one, and short enough
abbrev pub StairsLaw : Type 0
StairsLaw = (I : Instance) → WellFormed I → (P : Schedule) (c : Colour) → Staircase (free_at I P c) (stairs I P c) × (length (stairs I P c) ≤ max_pairs)

-- starts 3 and 4. Not: the first step that has `need` free
abbrev pub StairsReadLaw : Type 0
StairsReadLaw =
    (I : Instance) → WellFormed I → (Q : Partial) → Placed I Q → (c : Colour) (need : ℕ) → free_from_steps (stairs I Q.schedule c) need ≡ free_from I Q.schedule c need

-- a change of the function is a change of its staircase; a rise of what is held takes no more than is free
abbrev pub StepsAfterLaw : Type 0
StepsAfterLaw =
    (x : Change) (f : ℕ → ℕ) (xs : List Step) → Staircase f xs → (x.rises ≡ true → (t : ℕ) → x.tick ≤ t → x.amount ≤ f t)
    → Staircase (free_after x f) (steps_after x xs)

-- after every placing the staircases are what the hold rule gives. Not: a moved file's old memory freed at the move's start
abbrev pub StairsKept : Type 0
StairsKept =
    (I : Instance) → WellFormed I → (Q : Partial) → Placed I Q → (i : ℕ) (c : Colour) (s : ℕ) → Trial aware I Q i c s → (d : Colour) →
    steps_after_all (placing_changes I Q.schedule i c s d) (stairs I Q.schedule d) ≡ stairs I (assign I Q i c s).schedule d
