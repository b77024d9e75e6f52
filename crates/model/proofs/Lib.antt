-- The laws that the proofs of this crate, and of those above it, cite.

-- one turn of a loop that sums, takes the greatest, or looks for an index
pub mod StepLaws
-- one turn of the sum of what a memory holds
mod TotalLaws
-- the greatest and the least over a range, as a chain of calls gives them
pub mod RangeLaws
-- the instance and the schedule of the arrays, by index
pub mod LayoutLaws
-- the counts and the limits of a job's instance
pub mod JobLaws
-- the holds of a file and of a task's working memory, from what the accessors read
pub mod HoldLaws
-- the arrays after a write
pub mod WriteLaws
-- the arrays of a schedule that the due lines can spell
pub mod SpelledLaws
