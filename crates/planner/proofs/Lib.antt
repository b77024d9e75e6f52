-- The laws that the proofs of this crate cite.

-- what a planner claims
pub mod ClaimLaws
-- the planner's state between rounds: what holds of it at the start, after a round, and at the end
pub mod RunLaws
-- a round, by the rule
pub mod RoundLaws
-- a planner's own board
pub mod BoardLaws
-- one task more, and what is kept beside the schedule then
pub mod PlacingLaws
