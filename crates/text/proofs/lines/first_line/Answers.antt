use Rattle.text.proofs.FirstLineLaws.{line-cut, line-uncut}
use Rattle.text.proofs.lines.first_line.Goals as goal

pub returns-in-Some : goal.returns-in-Some
returns-in-Some c = line-cut _ c.first_lf.ensures _ c.in-Some.is

pub returns-in-None : goal.returns-in-None
returns-in-None c = line-uncut _ c.first_lf.ensures c.in-None.is
