-- Definitions that serve the code alone: no public clause reaches them.
pub mod Rounds
pub mod Weights
