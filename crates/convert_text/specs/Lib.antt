-- What the contracts of this crate cite besides the definitions of `rules`.
pub mod Answers
pub mod Converts
