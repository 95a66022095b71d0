pub mod Again
pub mod Flat
pub mod GoodFits
pub mod ReadBack
mod Rows
pub mod SpotAgain
