-- `mark_paper` meets its contract: it marks, and what was read is let go.
use Rattle.mark_text.proofs.PaperLaws.{marked-is}
use Rattle.mark_text.proofs.mark_paper.Goals as goal

pub returns : goal.returns
returns c = marked-is _ _ c.mark_into.ensures
