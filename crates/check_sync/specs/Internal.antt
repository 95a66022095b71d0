-- Definitions that serve the code alone: no public clause reaches them.
pub mod Around
pub mod Chains
pub mod Inside
pub mod Listings
pub mod Passings
pub mod Places
