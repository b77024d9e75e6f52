-- The laws that the proofs of this crate, and of those above it, cite.

-- one line
pub mod LineLaws
-- the due lines
pub mod DueLaws
-- the schedule read so far, with one line more
pub mod StoreLaws
-- the loops
pub mod ReadLoops
pub mod CrossingLaws
pub mod ReadLaws
-- the text by its lines
pub mod TextLaws
