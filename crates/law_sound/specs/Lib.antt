pub mod Initialized
pub mod Laws
pub mod Nodes
pub mod Plan
pub mod Served
pub mod Starts
