-- The laws that the proofs of this crate, and of those above it, cite.

-- start 1, starts 3 and 4, and all of them together
pub mod EarliestStartLaws
