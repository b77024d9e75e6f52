-- A planner's own board: what it plans there is what it plans on the sheet's board.
use Rattle.model.specs.Layout.{instance_of}
use Prim.Native.Nat.{ℕ}
use mathlib.Core.Path.{◌≡◌, refl, ap, ◌∙◌}
use native.Mathlib.Omega.{arith}
use Rattle.rules.specs.declared.Board.{Board}
use Rattle.rules.specs.Model.{Instance, Schedule}
use Rattle.rules.specs.Promises.{WellFormed, Ample}
use Rattle.rules.specs.Scheduling.{Memory, aware, plain, Planner, heft, min_min, memory_of, outcome}
use Rattle.rules.specs.StairsPromises.{loosened}
use Rattle.rules.specs.Validity.{true_claim}
use Rattle.rules.proofs.LoosenedLaws.{plain_loosened, loosened_ample, loosened_claim}
use Rattle.model.specs.declared.job.Job.{Job}
use Rattle.model.specs.Jobs.{instance_in}
use Rattle.planner.specs.declared.Outcome.{Outcome}
use Rattle.planner.specs.declared.Stuck.{Stuck}
use Rattle.std.specs.Prelude.{Result, Ok, Err, IfOk}
use Rattle.model.specs.declared.claim.Claim.{Claim}
use Rattle.model.specs.Claims.{as_claim}
use Rattle.planner.specs.Outcomes.{as_outcome, Claims}
use Rattle.planner.specs.Boards.{board_by, Suited}

module _ (j : Job) where
  abbrev I : Instance
  I = instance_in j

  -- the job's instance on that board
  abbrev on : Memory → Instance
  on m = instance_of (board_by m j.board) j.tasks.now j.files.now

  own-loosened : on plain ≡ loosened I
  unfolding instance_of loosened
  own-loosened = refl

  own-well : (m : Memory) → WellFormed I → WellFormed (on m) × (m ≡ plain → Ample (on m))
  own-well aware W = (W, λ e. absurd (never e))
    where
      never : aware ≡ plain → ⊥
      never e = let z : ◌≡◌ {A = ℕ} 0 1 = cc in omega arith
  own-well plain W = let a = loosened_ample I W in rw own-loosened (a.0, λ _. a.1)

  own-outcome : (R : Planner) → outcome R (on (memory_of R)) ≡ outcome R I
  own-outcome (heft aware) = refl
  own-outcome (heft plain) = ap (outcome (heft plain)) own-loosened ∙ plain_loosened (heft plain) refl I
  own-outcome (min_min aware) = refl
  own-outcome (min_min plain) = ap (outcome (min_min plain)) own-loosened ∙ plain_loosened (min_min plain) refl I

  own-claim : (m : Memory) (P : Schedule) → true_claim (on m) P ≡ true_claim I P
  own-claim aware P = refl
  own-claim plain P = ap (λ K. true_claim K P) own-loosened ∙ loosened_claim I P

-- ---- in the words of `run`

module _ (R : Planner) (j : Job) {board : Board} {m : Memory} (e : m ≡ memory_of R) (g : board ≡ board_by m j.board) where
  abbrev own : Instance
  own = instance_of board j.tasks.now j.files.now

  same : own ≡ on j (memory_of R)
  same = ap (λ b. instance_of b j.tasks.now j.files.now) (g ∙ ap (λ m. board_by m j.board) e)

  pub own-asks : WellFormed (instance_in j) → WellFormed own × Suited R own
  own-asks W = rw same (own-well j (memory_of R) W)

  module _ (P : Schedule) (r : Outcome) where
    pub own-ends : as_outcome r P ≡ outcome R own → as_outcome r P ≡ outcome R (instance_in j)
    own-ends q = q ∙ ap (outcome R) same ∙ own-outcome j R

    pub own-claims : Claims own P r → Claims (instance_in j) P r
    own-claims c = by_end r.claim c
      where
        i : true_claim own P ≡ true_claim (instance_in j) P
        i = ap (λ K. true_claim K P) same ∙ own-claim j (memory_of R) P

        by_end : (x : Result Claim Stuck) → IfOk x (λ claim. as_claim claim ≡ true_claim own P) → IfOk x (λ claim. as_claim claim ≡ true_claim (instance_in j) P)
        by_end (Ok claim) h = h ∙ i
        by_end (Err stuck) h = tt
