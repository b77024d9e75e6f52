-- Runs of a schedule: what it is that two of them overlap, and the lowest of a list that overlaps another.
pub mod Overlaps
pub mod First
