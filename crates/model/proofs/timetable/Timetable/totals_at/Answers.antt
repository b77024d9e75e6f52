-- `totals_at` meets its contract: in each memory the files and the working memory.
use Rattle.std.proofs.Common.{rules, of_calls, arith}
use Rattle.rules.specs.Model.{blue, red}
use Rattle.rules.specs.Residency.{held, files_held, work_held}
use Rattle.model.specs.Jobs.{instance_in, schedule_in}
use Rattle.model.specs.Residencies.{file_residency, work_residency}
use Rattle.model.proofs.JobLaws.{tasks-in, files-in}
use Rattle.model.proofs.timetable.Timetable.totals_at.Goals as goal

pub returns-clause-in_blue : goal.returns-clause-in_blue
unfolding held files_held work_held
returns-clause-in_blue c =
    let t = c.args.self.now in
    let I = instance_in t.job in
    let P = schedule_in t in
    let files = c.held_of-files.ensures.blue (file_residency I P blue) (λ k r l p. search (rules, of_calls)) in
    let work = c.held_of-work.ensures.blue (work_residency I P blue) (λ k r l p. search (rules, of_calls)) in
    rw (files-in t.job, tasks-in t.job) (omega (arith, files, work))

pub returns-clause-in_red : goal.returns-clause-in_red
unfolding held files_held work_held
returns-clause-in_red c =
    let t = c.args.self.now in
    let I = instance_in t.job in
    let P = schedule_in t in
    let files = c.held_of-files.ensures.red (file_residency I P red) (λ k r l p. search (rules, of_calls)) in
    let work = c.held_of-work.ensures.red (work_residency I P red) (λ k r l p. search (rules, of_calls)) in
    rw (files-in t.job, tasks-in t.job) (omega (arith, files, work))
