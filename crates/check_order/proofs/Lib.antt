pub mod Bridge
pub mod Drained
pub mod Going
pub mod HostReads
pub mod Hosts
pub mod InOrder
pub mod Lines
pub mod Listed
pub mod Placed
pub mod Queues
pub mod Steps
pub mod Tables
pub mod Within
mod Worked
