-- Definitions that serve the code alone: no public clause reaches them.
pub mod Counts
pub mod Scripts
pub mod Submissions
pub mod Walks
