-- The laws that the proofs of this crate cite.

-- changes as numbers
pub mod PackedLaws
-- one change more, one residency more, and all of a memory's
pub mod ListLaws
-- numbers sorted are changes in time order
pub mod OrderLaws
-- the walk over them
pub mod TotalLaws
