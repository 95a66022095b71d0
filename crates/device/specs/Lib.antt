pub mod Carried
pub mod Internal
pub mod Landings
