pub mod Internal
pub mod Draws
pub mod Effects
pub mod Lines
pub mod Places
pub mod Repeats
pub mod Tables
