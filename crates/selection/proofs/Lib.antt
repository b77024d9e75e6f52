-- The laws that the proofs of this crate, and of those above it, cite.

-- the trials of one task
pub mod ChoiceLaws
-- the rounds
pub mod RoundLaws
