-- The laws that the proofs of this crate cite.

-- the bound of a weight, and one turn of each loop that computes them
pub mod WeightLaws
-- a task put to its position
pub mod InsertionLaws
