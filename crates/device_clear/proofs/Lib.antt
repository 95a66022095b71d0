pub mod Clears
pub mod Effects
pub mod Simplifying
