pub mod Bounds
pub mod Choices
pub mod Internal
