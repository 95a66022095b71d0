pub mod Laws
pub mod Passing
pub mod Sound
pub mod Synchronized
