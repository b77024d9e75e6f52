-- The laws that the proofs of this crate cite.
pub mod RefusalLaws
pub mod SheetLaws
pub mod LeftLaws
