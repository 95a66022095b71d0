pub mod Answers
pub mod Internal
pub mod Edges
pub mod Laws
pub mod Nodes
pub mod Orders
