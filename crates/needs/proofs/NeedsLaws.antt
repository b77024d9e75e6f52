-- The needs of all tasks in a planner: their bounds before they are filled, their marks, and what a placing leaves of them.
use Prim.Native.Nat.{ℕ, ◌<◌}
use mathlib.Core.Bool.{true, not, cond, ◌&&◌}
use mathlib.Core.Logic.{◌≢◌}
use mathlib.Core.Path.{◌≡◌, sym, ap, ◌∙◌}
use native.Mathlib.Omega.{arith}
use lib.ListN.{replicate, get_or-replicate}
use borrow.Author.Tests.{eq-eqb}
use Rattle.rules.specs.Model as Rules
use Rattle.rules.specs.Model.{Instance, Schedule, task_count, file_count, file_at, size_at, move_time_at, same_colour, is_placed, run_at, colour_of, finish_of, maker_run}
use Rattle.rules.specs.Scheduling.{Partial, reads, ready, crossing, arrival, crossing_size, crossing_time, input_start, assign}
use Rattle.rules.proofs.Tests.{split, clash, same_test}
use Rattle.rules.proofs.CountLaws.{sum-cong, max-cong, where-cong}
use Rattle.rules.proofs.ReadyLaws.{ready-unplaced, ready-makers, makers-ready}
use Rattle.rules.proofs.StartLaws.{assign_other}
use Rattle.model.specs.Colours.{as_colour}
use Rattle.needs.specs.declared.demand.Demand.{Demand}
use Rattle.needs.specs.Demands.{DemandOf}
use Rattle.rules.specs.Limits.{max_tasks}
use Rattle.needs.specs.declared.table.Needs.{Needs}
use Rattle.needs.specs.Needs.{no_need, NeedsBounds}
use Rattle.needs.specs.Tables.{Right, RightBut, ReadsNone}

-- what is not worked out is in its bounds
pub none_bounds : NeedsBounds (replicate max_tasks no_need)
none_bounds = record {
  each = λ i l. rw (get_or-replicate max_tasks i no_need no_need l) (record {
    room = omega arith;
    kept = omega arith;
    blue = record { incoming = omega arith; arrival = omega arith; longest = omega arith };
    red = record { incoming = omega arith; arrival = omega arith; longest = omega arith };
  });
}

-- ---- a task whose run, and the runs of whose makers, stay as they were
module _ (I : Instance) (P P' : Schedule) (j : ℕ) (own : run_at P' j ≡ run_at P j)
    (makers : (k : ℕ) → k < file_count I → reads I j k ≡ true → maker_run I P' k ≡ maker_run I P k) where
  stays-ready : ready I P j ≡ true → ready I P' j ≡ true
  stays-ready r =
      makers-ready I P' j (ap is_placed own ∙ ready-unplaced I P j r)
      (λ k l e. ap is_placed (makers k l (eq-eqb _ _ e)) ∙ ready-makers I P j r k l e)

  crossing-same : (c : Rules.Colour) (k : ℕ) → k < file_count I → crossing I P' j c k ≡ crossing I P j c k
  crossing-same c k l = split (reads I j k) (λ e. ap (λ r. reads I j k && not (same_colour (colour_of I r) c)) (makers k l e)) (λ e. rw e)

  arrival-same : (c : Rules.Colour) (k : ℕ) → k < file_count I → reads I j k ≡ true → arrival I P' j c k ≡ arrival I P j c k
  arrival-same c k l e =
      let made = ap (finish_of I (file_at I k).maker) (makers k l e) in
      let move = ap (λ x. cond x (move_time_at I k) 0) (crossing-same c k l) in
      omega (arith, made, move)

  demand-stays : (c : Rules.Colour) {d : Demand} → DemandOf I P j c d → DemandOf I P' j c d
  unfolding crossing_size crossing_time input_start
  demand-stays c x = record {
    incoming = x.incoming ∙ sym (sum-cong (file_count I) _ _ (λ k l. ap (λ y. cond y (size_at I k) 0) (crossing-same c k l)));
    arrival = x.arrival ∙ sym (where-cong (file_count I) (reads I j) _ _ (arrival-same c));
    longest = x.longest ∙ sym (max-cong (file_count I) _ _ (λ k l. ap (λ y. cond y (move_time_at I k) 0) (crossing-same c k l)));
  }

-- ---- a placing leaves the needs right but for the task placed and the readers of what it makes
module _ (I : Instance) (Q : Partial) (i : ℕ) (c : Rules.Colour) (s : ℕ) where
  abbrev before : Schedule
  before = Q.schedule

  abbrev after : Schedule
  after = (assign I Q i c s).schedule

  module _ {j : ℕ} (d : j ≢ i) (none : ReadsNone I i 0 j) where
    maker-same : (k : ℕ) → k < file_count I → reads I j k ≡ true → maker_run I after k ≡ maker_run I before k
    maker-same k l e = assign_other I Q i c s (file_at I k).maker (λ m. clash e (none k (omega arith) l (eq-eqb _ _ m)))

    own_same : run_at after j ≡ run_at before j
    own_same = assign_other I Q i c s j d

    back-ready : ready I after j ≡ true → ready I before j ≡ true
    back-ready = stays-ready I after before j (sym own_same) (λ k l e. sym (maker-same k l e))

    ready-same : ready I after j ≡ ready I before j
    ready-same = same_test (ready I after j) (ready I before j) back-ready (stays-ready I before after j own_same maker-same)

  pub right-but : {xs : Needs} → Right I Q.schedule xs → RightBut I (assign I Q i c s).schedule i xs
  right-but n = record {
    sized = n.sized;
    admitted = λ j l d none. let x = n.admitted j l in record {
      is_ready = x.is_ready ∙ sym (ready-same d none);
      demand = λ r y. demand-stays I before after j (own_same d none) (maker-same d none) (as_colour y) (x.demand (back-ready d none r) y);
    };
  }
