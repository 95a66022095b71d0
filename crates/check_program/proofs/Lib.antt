pub mod Least
pub mod Ranges
pub mod Sample
mod Unsound
pub mod Verdicts
