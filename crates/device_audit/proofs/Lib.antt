pub mod Again
pub mod Coming
pub mod Counted
pub mod Digits
pub mod Ending
pub mod Histories
pub mod Holding
pub mod Made
pub mod Reading
pub mod Saying
mod WorkedTraces
pub mod Tended
