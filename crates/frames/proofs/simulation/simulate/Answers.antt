-- `simulate` meets its contract: the answer is the definition's, and so keeps the demands.
use mathlib.Core.Path.{sym, ap, ◌∙◌}
use Rattle.simulator.specs.Answers.{as_answer}
use Rattle.frames.proofs.SheetLaws.{exit-err}
use Rattle.frames.proofs.DemandLaws.{simulator-demands}
use Rattle.frames.proofs.SimulateLaws.{simulate-accepted, simulated-refused}
use Rattle.frames.proofs.simulation.simulate.Goals as goal

pub returns-in_err-job : goal.returns-in_err-job
returns-in_err-job c =
    let x = c.in_err-job.field-0.0 in
    let v = ap as_answer (exit-err c.from_residual.result x c.from_residual.ensures.1)
    ∙ simulated-refused c.args.sheet.now c.args.paper.now c.args.made c.args.steps x c.in_err-job.ensures.answer in record {
      answer = v;
      simulator_demands = simulator-demands c.args.sheet.now c.args.paper.now c.args.made c.args.steps v;
    }

pub returns : goal.returns
returns c =
    let sheet = c.args.sheet.now in
    let paper = c.args.paper.now in
    let v = c.simulate_paper.ensures ∙ sym (simulate-accepted sheet paper c.args.made c.args.steps _ c.in_ok-job.ensures.answer) in record {
      answer = v;
      simulator_demands = simulator-demands sheet paper c.args.made c.args.steps v;
    }
