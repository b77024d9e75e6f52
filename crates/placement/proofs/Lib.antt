-- The laws that the proofs of this crate, and of those above it, cite.

-- the processors of a colour, and the one chosen
pub mod SlotLaws
-- the moves of the files that a task reads
pub mod MoveLaws
-- the changes of a placing in the two memories
pub mod MemoryLaws
-- the partial schedule with one task more, and with nothing placed
pub mod PlaceLaws
