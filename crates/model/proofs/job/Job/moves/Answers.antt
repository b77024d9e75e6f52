-- `moves` meets its contract: no move time is 0.
use Rattle.std.proofs.Common.{◌∙◌, ◌≤◌, ap, ltb, arith}
use Rattle.rules.specs.Model.{maker_colour, reader_colour, move_time_at}
use Rattle.rules.proofs.ColourLaws.{takes-time}
use Rattle.model.specs.Jobs.{instance_in, schedule_of}
use Rattle.model.proofs.JobLaws.{file-in}
use Rattle.model.proofs.job.Job.moves.Goals as goal

pub returns : goal.returns
returns c =
    let j = c.args.self.now in
    let I = instance_in j in
    let P = schedule_of j c.args.schedule.now in
    let least : 1 ≤ move_time_at I c.args.k =
    omega (arith, (j.in_bounds.move_time c.args.k c.requires).least, ap (λ f. f.move_time) (file-in j c.args.k)) in
    ap (ltb 0) c.actual_move_time.ensures.value ∙ takes-time (maker_colour I P c.args.k) (reader_colour I P c.args.k) (move_time_at I c.args.k) least
