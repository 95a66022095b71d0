pub mod Assembled
pub mod Continued
pub mod Filled
pub mod Found
pub mod Growing
pub mod InOrder
pub mod Joined
pub mod Lists
pub mod Numbers
pub mod Operands
pub mod Settings
pub mod Sizes
pub mod Sources
pub mod Tabled
pub mod Tables
mod Worked
