pub mod Internal
pub mod Pairs
pub mod Placing
