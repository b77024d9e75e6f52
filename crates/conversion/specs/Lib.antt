-- What is stored of the converted job.
pub mod Stored
