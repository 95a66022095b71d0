pub mod Internal
pub mod Commands
pub mod Groups
pub mod Laws
pub mod Needs
pub mod Placed
pub mod Uses
