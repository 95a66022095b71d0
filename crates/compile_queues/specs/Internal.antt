-- Definitions that serve the code alone: no public clause reaches them.
pub mod Best
pub mod Chosen
pub mod Spans
pub mod Sweep
pub mod Work
