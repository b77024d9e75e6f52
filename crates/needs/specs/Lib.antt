-- What the contracts of this crate cite beside the rules' own definitions.
pub mod Demands
pub mod Needs
pub mod Tables
