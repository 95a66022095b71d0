-- Definitions that serve the code alone: no public clause reaches them.
pub mod Counts
pub mod Roots
pub mod Rows
