-- Definitions that serve the code alone: no public clause reaches them.
pub mod Buckets
pub mod Grown
pub mod Known
pub mod Tabled
