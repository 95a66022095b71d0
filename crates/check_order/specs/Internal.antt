-- Definitions that serve the code alone: no public clause reaches them.
pub mod Queues
pub mod Tables
