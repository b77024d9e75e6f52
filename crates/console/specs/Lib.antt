-- What the contracts of this crate cite.
pub mod Escaped
pub mod LongEnough
