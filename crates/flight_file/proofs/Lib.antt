pub mod Cutting
pub mod Flown
pub mod Holding
pub mod Outcomes
pub mod Printing
pub mod Reading
pub mod Texts
pub mod Windows
