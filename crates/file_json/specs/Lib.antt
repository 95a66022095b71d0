pub mod Json
pub mod Leaves
pub mod Parts
pub mod Locations
pub mod Reading
