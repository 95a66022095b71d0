pub mod Apart
pub mod Best
pub mod Inserted
pub mod Intervals
pub mod LowSums
pub mod NoneSmaller
mod Rows
