pub mod Edges
pub mod Laws
pub mod Order
pub mod Passing
pub mod Single
pub mod Stages
pub mod Ways
