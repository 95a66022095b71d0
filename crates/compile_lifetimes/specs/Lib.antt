pub mod Internal
pub mod Ordered
