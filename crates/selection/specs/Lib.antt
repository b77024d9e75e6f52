-- What the contracts of this crate cite beside the rules' own definitions.
pub mod Choices
pub mod Trials
