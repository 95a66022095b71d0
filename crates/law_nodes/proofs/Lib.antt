pub mod Passed
pub mod Passes
pub mod Sites
pub mod Ways
pub mod Whole
