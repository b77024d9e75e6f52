-- `instance::sheet::go_on` meets its contract: a task's or a file's line is due.
use Rattle.instance.proofs.ReadLaws.{numbered}
use Rattle.instance.proofs.sheet.go_on.Goals as goal

pub add-requires : goal.add-requires
add-requires c = numbered _ c.in_ok-next.ensures
