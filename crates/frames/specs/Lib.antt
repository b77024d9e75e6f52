-- What the public calls promise, of the answer at hand.
pub mod Planners
pub mod Demands
pub mod ConversionDemands
