pub mod Bits
pub mod Orders
mod Rows
pub mod Same
pub mod Sound
pub mod States
pub mod Transport
