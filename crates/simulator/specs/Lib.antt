-- The code's answer in the words of the rules, and what its functions compute.
pub mod Answers
pub mod Turns
pub mod Faults
pub mod Walks
