-- Definitions that serve the code alone: no public clause reaches them.
pub mod Folded
pub mod Resources
pub mod Laid
pub mod Tables
pub mod PrologueFacts
pub mod Wants
