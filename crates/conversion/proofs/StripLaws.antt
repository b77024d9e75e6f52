-- What is kept of a schedule of the converted job: parts of its arrays.
use Prim.Native.Nat.{ℕ, ◌+◌, ◌-◌, ◌≤◌}
use mathlib.Core.List.{List, ◌++◌}
use mathlib.Core.Path.{◌≡◌, sym, ap₂, ◌∙◌}
use native.Mathlib.Omega.{arith}
use borrow.Rule.Slice.PartMut.{mid_of}
use lib.ListN.{length, get_or, take, drop}
use Rattle.std.proofs.lemmas.List.{length-take, length-drop, get_or_append_left, get_or-take, get_or-drop}
use Rattle.rules.specs.Count.{list_below}
use Rattle.rules.specs.Model.{Instance, Schedule, Run}
use Rattle.rules.specs.Conversion.{added_count, stripped}
use Rattle.rules.proofs.CountLaws.{list-cong}
use Rattle.model.specs.declared.layout.Run.{Run as StoredRun}
use Rattle.model.specs.declared.layout.Schedule.{Schedule as StoredSchedule}
use Rattle.model.specs.Layout.{entries_of, run_from, schedule_from}
use Rattle.conversion.proofs.ListLaws.{list-drop}

-- the front of a list that begins with a part of another
front : {A B : Type 0} (f : A → B) (d : A) (xs ys rest : List A) (m n : ℕ) → m + n ≤ length xs → ys ≡ mid_of m (m + n - m) xs
    → list_below n (λ i. f (get_or (ys ++ rest) i d)) ≡ list_below n (λ i. f (get_or xs (m + i) d))
front f d xs ys rest m n h e =
    list-cong n _ _
    (λ i l.
    let long : length (take (m + n - m) (drop m xs)) ≡ n = omega (arith, length-take (m + n - m) (drop m xs), length-drop m xs) in
    rw (e, get_or_append_left (take (m + n - m) (drop m xs)) rest d i (omega (arith, long)), get_or-take (m + n - m) (drop m xs) i d (omega arith), get_or-drop m xs i d))

with-parts : List Run → List ℕ → Schedule
with-parts runs moves = record { runs = runs; moves = moves }

-- with the parts behind the added runs and moves at its front, a schedule is the stripped one
pub kept : (n k m : ℕ) (from to : StoredSchedule) {runs : List StoredRun} {moves : List ℕ} (runs-rest : List StoredRun) (moves-rest : List ℕ) → m + n ≤ length from.runs → m + k ≤ length from.moves
    → runs ≡ mid_of m (m + n - m) from.runs → moves ≡ mid_of m (m + k - m) from.moves → (I : Instance) → added_count I ≡ m
    → schedule_from n k (entries_of (record { runs = runs ++ runs-rest; moves = moves ++ moves-rest })) ≡ stripped I (schedule_from (m + n) (m + k) (entries_of from))
unfolding schedule_from stripped with-parts
kept n k m from to {runs} {moves} runs-rest moves-rest p q r s I e =
    rw e
    (ap₂ with-parts
    (front (λ x. record { processor = x.processor; start = x.start }) _ from.runs runs runs-rest m n p r ∙ sym (list-drop m n (run_from (entries_of from))))
    (front (λ t. t) 0 from.moves moves moves-rest m k q s ∙ sym (list-drop m k (entries_of from).move_start)))
