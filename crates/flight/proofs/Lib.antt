pub mod Alike
pub mod Begins
pub mod Counted
pub mod Flies
pub mod Frames
pub mod Limited
pub mod Naming
pub mod Places
pub mod Queues
pub mod Read
mod Rows
pub mod Same
pub mod Sizes
pub mod Sources
pub mod Told
pub mod Turning
pub mod Units
pub mod Walks
