pub mod Again
pub mod Bits
pub mod Flat
pub mod GoodFits
pub mod Layers
pub mod MaskAgain
pub mod Names
pub mod ReadBack
mod Rows
