-- Definitions that serve the code alone: no public clause reaches them.
pub mod Intakes
pub mod Served
pub mod Steps
pub mod Totals
