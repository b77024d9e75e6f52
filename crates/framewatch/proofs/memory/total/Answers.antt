-- A file counts where the memory holds it.
use Rattle.std.proofs.Common.{ℕ, get_or, sym, arith, ◌∙◌}
use Rattle.rules.specs.Model.{size_at}
use Rattle.rules.specs.SimulationPromises.{is_in}
use Rattle.model.specs.Colours.{as_colour}
use Rattle.model.specs.Jobs.{instance_in}
use Rattle.model.proofs.StepLaws.{sum-none, sum-yes, sum-no}
use Rattle.framewatch.proofs.memory.total.Goals as goal
use Rattle.framewatch.proofs.memory.total.Goals.{then-holds, else-holds}

pub loop-k-init : goal.loop-k-init
loop-k-init c = (omega arith, sym (sum-none _))

pub loop-k-preserved : goal.loop-k-preserved
loop-k-preserved c =
    let k = c.loop-k.k in
    let p = λ (j : ℕ). is_in (as_colour c.args.colour) (get_or c.args.contents.now j 0) in
    let f = size_at (instance_in c.args.job.now) in
    elim c.if-holds.branch [
      | then-holds w ↦ (
        omega (arith, w.size-sum.ensures.upper_bound),
        omega (arith, sum-yes p f k (sym c.holds.ensures ∙ w.if-holds.true), w.size-sum.ensures.value),
      )
      | else-holds w ↦ (omega arith, omega (arith, sum-no p f k (sym c.holds.ensures ∙ w.if-holds.false)))
    ]
