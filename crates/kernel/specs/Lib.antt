pub mod Anew
pub mod Bands
pub mod Closures
pub mod Internal
pub mod Pictures
pub mod Rects
pub mod Sources
