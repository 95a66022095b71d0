-- Definitions that serve the code alone: no public clause reaches them.
pub mod Counts
pub mod Nodes
pub mod Standing
