-- What the contracts of this crate cite besides the definitions of `rules`.
pub mod Lines
pub mod Steps
pub mod Reads
