pub mod Internal
pub mod Simpler
