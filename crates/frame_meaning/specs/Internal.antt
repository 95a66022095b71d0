-- Definitions that serve the code alone: no public clause reaches them.
pub mod Held
pub mod Sizes
pub mod Stored
