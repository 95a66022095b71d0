pub mod Apart
pub mod ByKind
pub mod Exported
pub mod Good
pub mod GoodNumbers
pub mod GoodPass
pub mod Named
pub mod Naming
pub mod Numbering
pub mod Walking
mod Worked
