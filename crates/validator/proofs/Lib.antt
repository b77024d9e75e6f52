-- The laws that the proofs of this crate, and of those above it, cite.

-- the least value where a test holds
pub mod LeastLaws
-- the lowest reader of an early file
pub mod EarlyLaws
-- the lowest task whose run overlaps another's
pub mod OverlapLaws
-- both memories, from the totals of each
pub mod MemoryLaws
-- the verdict test by test
pub mod JudgeSteps
-- the loops over the files and the tasks
pub mod Loops
