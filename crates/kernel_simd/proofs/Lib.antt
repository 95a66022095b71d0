pub mod Lanes
pub mod Blocks
pub mod Joins
pub mod Drawn
pub mod Ends
