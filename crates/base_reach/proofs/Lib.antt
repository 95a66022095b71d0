pub mod FirstRow
pub mod Linked
pub mod PairSets
pub mod Upward
mod Worked
pub mod WordBits
