-- The laws that the proofs of this crate, and of those that walk a chain, cite.

-- sums, greatest values and searches pass what lies between two files of a task
pub mod ChainLaws
-- one turn of the loop that makes the chains
pub mod LinkLaws
-- a walk along the files of a task: where it begins, goes on and ends
pub mod WalkLaws
