use Rattle.text.proofs.WriteNumeralLaws.{pending-start}
use Rattle.text.proofs.numerals.write_number.Goals as goal

pub loop-k-init : goal.loop-k-init
loop-k-init c = pending-start _ _ _ c.number_size-n.ensures c.requires
