mod Crossing
pub mod Full
mod Leveled
mod Opens
mod Ordering
mod Sorts
mod Standing
mod Worked
