pub mod Internal
pub mod Meaning
