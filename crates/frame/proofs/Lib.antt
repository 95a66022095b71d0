pub mod Clashing
pub mod Exports
pub mod Flat
pub mod Known
pub mod Lookups
pub mod Marks
pub mod Necessary
pub mod Once
pub mod OneByOne
pub mod Owned
mod Rows
pub mod Sizes
pub mod Small
pub mod Spans
pub mod Spread
pub mod Stretches
pub mod Sufficient
pub mod Totals
