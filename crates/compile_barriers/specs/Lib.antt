pub mod Internal
pub mod Masks
pub mod Prologues
pub mod Under
pub mod Unions
