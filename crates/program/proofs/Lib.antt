pub mod Counting
pub mod Entering
pub mod Few
pub mod Growing
pub mod Obeying
pub mod Peaks
pub mod Within
