pub mod Counts
pub mod Internal
pub mod Listed
pub mod Memory
pub mod Reads
pub mod Served
pub mod Taps
pub mod Writes
