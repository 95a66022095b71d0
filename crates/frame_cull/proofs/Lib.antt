pub mod Begin
pub mod Grow
pub mod Needed
pub mod Pop
pub mod Reach
pub mod Steps
mod WorkedVersions
