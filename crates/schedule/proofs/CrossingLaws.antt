-- Whether a file moves, by what the code found: in a schedule, and in one whose moves are read so far.
use lib.ListN.{length}
use Rattle.model.specs.Layout.{schedule_from}
use Prim.Native.Nat.{ℕ}
use mathlib.Core.Path.{◌≡◌, refl, sym, ap, ◌∙◌}
use mathlib.Core.Bool.{Bool}
use mathlib.Core.List.{List, []}
use Rattle.rules.specs.Count.{list_below}
use Rattle.rules.specs.Model.{Instance, Run, Schedule, moved}
use Rattle.model.specs.declared.layout.Schedule.{Schedule as StoredSchedule}
use Rattle.model.specs.declared.job.Job.{Job}
use Rattle.model.specs.Layout.{Entries, entries_of, run_from}
use Rattle.model.specs.Jobs.{instance_in, schedule_by}
use Rattle.schedule.proofs.StoreLaws.{moves_of}
use Rattle.schedule.proofs.ReadLoops.{MovesRead}

pub moved-is : (I : Instance) (P : Schedule) (k : ℕ) {r x : Bool} → r ≡ moved I P k → r ≡ x → moved I P k ≡ x
moved-is I P k e q = sym e ∙ q

runs-from : (j : Job) (L : Entries) → (schedule_by j L).runs ≡ list_below (length j.tasks.now) (run_from L)
unfolding schedule_from
runs-from j L = refl

-- which files move depends on the runs alone
pub moved-so-far : {j : Job} {bs : List ℕ} {old schedule : StoredSchedule} {line : ℕ} {rest : List ℕ} {k i : ℕ}
    → MovesRead j bs old schedule line rest k i → {r x : Bool} → r ≡ moved (instance_in j) (schedule_by j (entries_of schedule)) i → r ≡ x
    → moved (instance_in j) (moves_of (length j.tasks.now) i (entries_of schedule)) i ≡ x
moved-so-far {j} {schedule = schedule} {i = i} q e y =
    ap (λ (rs : List Run). moved (instance_in j) (record { runs = rs; moves = [] }) i) (sym (runs-from j (entries_of schedule))) ∙ sym e ∙ y
