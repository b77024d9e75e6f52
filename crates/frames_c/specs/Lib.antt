-- The numbers of the exported calls.
pub mod Exports
