-- A memory's staircase as the code has it, in the order to read.
pub mod Steps
pub mod Stairs
