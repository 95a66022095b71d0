-- Definitions that serve the code alone: no public clause reaches them.
pub mod Contents
pub mod Kept
pub mod Opened
pub mod Rows
pub mod Segments
pub mod Uses
