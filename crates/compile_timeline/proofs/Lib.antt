pub mod Below
mod Entering
pub mod Latest
mod Placed
mod Scripts
mod Walks
mod Writing
mod Counting
mod Submitting
mod Worked
