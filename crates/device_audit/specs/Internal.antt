-- Definitions that serve the code alone: no public clause reaches them.
pub mod Followers
pub mod Following
pub mod Reading
