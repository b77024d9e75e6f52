-- The laws that the proofs of this crate, and of those above it, cite.

-- the steps read from the end
pub mod ReadLaws
-- the steps after a change
pub mod StepLaws
-- and that they ascend
pub mod AscendingLaws
-- several changes: pending-requires, pending-front, pending-after; made_none, made_one, made_then
pub mod ChangesLaws
-- a memory's staircase: holds_read, holds-ticks, holds-start; pending-placing, holds-placed
pub mod StairsLaws
