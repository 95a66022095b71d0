pub mod Bounds
pub mod Matched
pub mod Named
pub mod Numerals
pub mod Refused
