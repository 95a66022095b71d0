pub mod Exported
pub mod Lists
pub mod Marks
pub mod Remaining
pub mod Room
pub mod Runs
pub mod Settling
pub mod Steps
mod WorkedMeaning
