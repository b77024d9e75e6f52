-- What the contracts of this crate cite beside the rules' own definitions.
pub mod Outcomes
pub mod Boards
