pub mod Adding
pub mod Deciding
pub mod Forward
pub mod Joined
pub mod Sides
