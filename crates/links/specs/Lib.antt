-- The files of each task as chains, in the order to read.
pub mod Chains
pub mod Files
