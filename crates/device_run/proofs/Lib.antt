pub mod Keeping
pub mod OwnRun
pub mod RunLemmas
