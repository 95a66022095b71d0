-- Definitions that serve the code alone: no public clause reaches them.
pub mod Fresh
pub mod Blocked
pub mod Kept
pub mod Needs
pub mod Running
pub mod Spans
