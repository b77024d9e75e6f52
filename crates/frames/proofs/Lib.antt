-- The demands, from rules' promises.
pub mod DemandLaws
-- what the exit of a `?` answers
pub mod SheetLaws
-- the marker, by what was read
pub mod MarkLaws
-- a planner, by what was read and made
pub mod PlanLaws
-- the simulator, by what was read
pub mod SimulateLaws
-- Order 7: its demands, and its calls by what was read
pub mod ConversionDemandLaws
