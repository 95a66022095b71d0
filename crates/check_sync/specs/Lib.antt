pub mod Internal
pub mod First
pub mod Synchronized
