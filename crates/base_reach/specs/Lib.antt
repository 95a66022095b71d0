pub mod Bits
pub mod Internal
pub mod Pairs
pub mod Paths
