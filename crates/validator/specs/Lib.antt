-- What the validator's functions compute.
pub mod Least
pub mod Early
pub mod Memories
pub mod Records
pub mod Answer
