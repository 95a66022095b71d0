pub mod Again
pub mod Bytes
pub mod Flat
pub mod Ranges
pub mod Walks
