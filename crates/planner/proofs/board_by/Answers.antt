-- `board_by` meets its contract.
use Rattle.planner.proofs.board_by.Goals as goal

pub returns-in-Aware : goal.returns-in-Aware
returns-in-Aware c = let e = c.in-Aware.is in rw e

pub returns-in-Plain : goal.returns-in-Plain
returns-in-Plain c = let e = c.in-Plain.is in rw (e, c.loosened.ensures, c.loosened-in-Plain.ensures)
