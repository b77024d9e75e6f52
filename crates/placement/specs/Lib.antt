-- The processors of a colour among the last finishes; what a placing changes in the two memories.
pub mod Slots
pub mod Memory
