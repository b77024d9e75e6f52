-- The rules' colours, instance and schedule, of the code's enum, lists and arrays, and what the contracts cite beside them.
pub mod Colours
pub mod Layout
pub mod Costs
pub mod Holds
pub mod Residencies
pub mod Claims
pub mod Jobs
pub mod Ticks
