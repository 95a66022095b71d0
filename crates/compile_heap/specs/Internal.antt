-- Definitions that serve the code alone: no public clause reaches them.
pub mod Choosing
pub mod Filling
pub mod Moving
pub mod Rising
