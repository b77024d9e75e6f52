-- What the contracts of this crate, and of those above it, cite besides the rules.
pub mod Packed
pub mod Listed
pub mod Totals
