-- What the code asks of an array of weights.
pub mod Weights
