-- The laws that the proofs of this crate cite.

-- the soonest tick of which something holds
pub mod SoonestLaws
-- the next turn
pub mod TurnLaws
-- a test of the indices below a bound
pub mod AnyLaws
-- a fold over the indices below a bound
pub mod FoldLaws
-- the fault of a tick
pub mod FaultLaws
-- the state of a tick
pub mod StateLaws
-- what a step meets, and the walk
pub mod StepLaws
