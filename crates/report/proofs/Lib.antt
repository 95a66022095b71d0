pub mod Begun
pub mod Passes
pub mod Places
mod Rows
pub mod Sums
