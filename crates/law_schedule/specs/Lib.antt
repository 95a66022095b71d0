pub mod Later
pub mod Laws
pub mod Levels
pub mod Opens
pub mod Standing
