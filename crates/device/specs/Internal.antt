-- Definitions that serve the code alone: no public clause reaches them.
pub mod Jobs
pub mod Kept
pub mod Loads
pub mod Opened
pub mod Fields
pub mod Reads
pub mod Results
pub mod Rooms
pub mod Syncs
pub mod Tables
pub mod Takes
pub mod Untouched
