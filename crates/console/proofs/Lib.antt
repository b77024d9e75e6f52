-- The laws that the proofs of this crate cite.
pub mod EscapedLaws
pub mod LongEnoughLaws
