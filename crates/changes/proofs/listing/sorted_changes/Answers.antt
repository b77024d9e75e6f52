-- `sorted_changes` meets its contract: the changes of the files, those of the working memory, and the sort.
use Rattle.std.proofs.Common.{◌≡◌, ◌∙◌, ap, length, of_calls}
use borrow.Author.Rules.{rules}
use Rattle.arrayvec.specs.ArrayVec.{array_vec_len}
use Rattle.arrayvec.proofs.ArrayVecLemmas.{items-with_items}
use Rattle.model.specs.Colours.{as_colour}
use Rattle.model.specs.Jobs.{instance_in, schedule_in}
use Rattle.model.specs.Layout.{entries_of}
use Rattle.model.specs.Residencies.{file_residency, work_residency}
use Rattle.changes.proofs.OrderLaws.{sorted-in-time}
use Rattle.changes.proofs.listing.sorted_changes.Goals as goal

pub returns-clause-in_time : goal.returns-clause-in_time
returns-clause-in_time c =
    let t = c.args.t.now in
    let I = instance_in t.job in
    let P = schedule_in t in
    let v = c.push_all-2.new.changes in
    let files = c.push_all.ensures.changes (file_residency I P (as_colour c.args.colour)) (λ k r l p. search (rules, of_calls)) in
    let work = c.push_all-2.ensures.changes (work_residency I P (as_colour c.args.colour)) (λ k r l p. search (rules, of_calls)) in
    let same : length c.sort.new.a ≡ length c.as_mut_slice.result.now = search rules in
    let whole : length c.sort.new.a ≡ array_vec_len v = same ∙ ap length c.as_mut_slice.ensures.value in
    rw (items-with_items v c.sort.new.a whole)
    (sorted-in-time t.job (entries_of t.schedule.now) (as_colour c.args.colour) (rw c.clear.ensures at files)
    work whole (rw c.as_mut_slice.ensures.value at c.sort.ensures))
