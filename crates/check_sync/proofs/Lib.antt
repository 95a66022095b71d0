pub mod Around
pub mod Clashes
pub mod Ordered
pub mod Passes
pub mod Tables
pub mod Through
pub mod Walks
pub mod Whole
