-- The laws that the proofs of this crate cite.

-- the lowest run of a list that overlaps another, and what the search for it has passed
pub mod FirstOverlapLaws
