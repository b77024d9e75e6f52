-- The laws that the proofs of this crate, and of those above it, cite.

-- start 2, and the amounts that starts 3 and 4 ask for
pub mod DemandLaws
-- which tasks are ready
pub mod ReadinessLaws
-- the sizes along a chain
pub mod SizeLaws
-- the needs filled, and renewed after a placing
pub mod FillLaws
-- the needs in a planner: after a placing
pub mod NeedsLaws
