-- What the contracts of this crate cite besides the definitions of `rules`.
pub mod FirstLine
pub mod Numerals
pub mod Cut
pub mod Due
pub mod Laid
pub mod Wrote
