-- A memory's rises and falls, and the running total over them: document 02, Order 8.
use Rattle.std.specs.Prelude.{ℕ, zero, suc, ◌+◌, ◌*◌, ◌-◌, ◌≤◌, ◌<◌, min, Bool, true, false, not, cond, ◌&&◌, List, [], ◌∷◌, ◌++◌, ◌≡◌, length, get_or, ltb, eqb}
use Rattle.std.proofs.Math.Option.{Option, none, some}
use Rattle.rules.specs.Count.{sum_over, max_below, first_below, list_below}
use Rattle.rules.specs.Model.{Colour, blue, red, Instance, limit_of, task_count, work_at, file_count, size_at, Schedule}
use Rattle.rules.specs.Residency.{Hold, never, during, since, hold_of, work_of}
use Rattle.rules.specs.Validity.{Claim, overlaps, reads_early, makespan, same_claim, Verdict, refused_by, accepted_with}

-- ---- rises and falls

-- what a memory holds of one file, or of one task's working memory: when, and how many blocks
pub record Residency : Type 0 where
  pub hold : Hold
  pub size : ℕ

-- of every file, and of every task's working memory
unfoldable pub residencies : Instance → Schedule → Colour → List Residency
residencies I P c =
    list_below (file_count I) (λ k. record { hold = hold_of I P c k; size = size_at I k })
    ++ list_below (task_count I) (λ i. record { hold = work_of I P c i; size = work_at I i })

-- a rise or a fall of what a memory holds
pub record Change : Type 0 where
  pub tick : ℕ
  pub rises : Bool
  pub amount : ℕ

-- a hold rises where it starts and falls where it ends, also at size 0
abbrev pub changes_by : Hold → ℕ → List Change
changes_by never size = []
changes_by (during from end) size = record { tick = from; rises = true; amount = size } ∷ record { tick = end; rises = false; amount = size } ∷ []
changes_by (since from) size = record { tick = from; rises = true; amount = size } ∷ []

unfoldable pub changes_in : List Residency → List Change
changes_in [] = []
changes_in (x ∷ xs) = changes_by x.hold x.size ++ changes_in xs

-- every rise and fall of memory c
abbrev pub changes : Instance → Schedule → Colour → List Change
changes I P c = changes_in (residencies I P c)

abbrev pub change_at : List Change → ℕ → Change
change_at xs k = get_or xs k (record { tick = 0; rises = true; amount = 0 })

-- ---- the order in which they are taken

abbrev pub same_change : Change → Change → Bool
same_change x y = eqb x.tick y.tick && cond x.rises y.rises (not y.rises) && eqb x.amount y.amount

-- how often a change stands in a list
abbrev pub occurrences : Change → List Change → ℕ
occurrences x = sum_over (λ y. cond (same_change x y) 1 0)

-- two lists have the same changes, each as often
abbrev pub SameChanges : List Change → List Change → Type 0
SameChanges xs ys = (x : Change) → occurrences x xs ≡ occurrences x ys

-- the place of a change in time order: by its tick, and at one tick falls before rises
abbrev pub time_key : Change → ℕ
time_key x = x.tick * 2 + cond x.rises 1 0

abbrev pub InOrder : List Change → Type 0
InOrder xs = (k : ℕ) → suc k < length xs → time_key (change_at xs k) ≤ time_key (change_at xs (suc k))

-- memory c's changes in time order, falls before rises at one tick; those of one tick and direction in any order
pub record InTime (I : Instance) (P : Schedule) (c : Colour) (xs : List Change) : Type 0 where
  pub same : SameChanges (changes I P c) xs
  pub order : InOrder xs

-- ---- the running total

abbrev pub changed_by : Change → ℕ → ℕ
changed_by x total = cond x.rises (total + x.amount) (total - x.amount)

-- the total after the first k changes
unfoldable pub running_total : List Change → ℕ → ℕ
running_total xs zero = 0
running_total xs (suc k) = changed_by (change_at xs k) (running_total xs k)

unfoldable pub greatest_total : List Change → ℕ
greatest_total xs = max_below (length xs) (λ k. running_total xs (suc k))

-- whether the total is over a limit after change k
abbrev pub over_after : ℕ → List Change → ℕ → Bool
over_after limit xs k = ltb limit (running_total xs (suc k))

-- the tick of the first change after which the total is over a limit
unfoldable pub first_over : ℕ → List Change → Option ℕ
first_over limit xs =
    let k = first_below (length xs) (over_after limit xs) in
    cond (ltb k (length xs)) (some (change_at xs k).tick) none

-- ---- the marker by changes: `judge` of Validity, with 17 and the peaks from the running totals of both memories

-- the earlier of two ticks, where there are any
abbrev pub sooner : Option ℕ → Option ℕ → Option ℕ
sooner none b = b
sooner (some s) none = some s
sooner (some s) (some t) = some (min s t)

abbrev pub claim_by_changes : Instance → Schedule → List Change → List Change → Claim
claim_by_changes I P xs ys = record { span = makespan I P; blue_peak = greatest_total xs; red_peak = greatest_total ys }

-- the verdict from 17 on, by the first instant over a limit
abbrev pub memory_by_first : Option ℕ → Claim → Claim → Verdict
memory_by_first (some t) claim own = refused_by 17 t
memory_by_first none claim own = cond (same_claim claim own) (accepted_with claim) (refused_by 18 0)

unfoldable pub memory_by_changes : Instance → Schedule → Claim → List Change → List Change → Verdict
memory_by_changes I P claim xs ys =
    memory_by_first (sooner (first_over (limit_of I blue) xs) (first_over (limit_of I red) ys)) claim (claim_by_changes I P xs ys)

-- from 15 on
unfoldable pub judge_by_changes : Instance → Schedule → Claim → List Change → List Change → Verdict
judge_by_changes I P claim xs ys =
    let n = task_count I in
    let i = first_below n (overlaps I P) in
    let j = first_below n (reads_early I P) in
    cond (ltb i n) (refused_by 15 (suc i)) (cond (ltb j n) (refused_by 16 (suc j)) (memory_by_changes I P claim xs ys))
