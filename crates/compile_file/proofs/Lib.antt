pub mod TightLemmas
pub mod Turns
