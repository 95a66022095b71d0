pub mod Internal
pub mod Culled
pub mod Versions
