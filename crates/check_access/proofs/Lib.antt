pub mod Commands
pub mod Endings
pub mod EntryFits
pub mod Fitting
pub mod Growing
pub mod KindFacts
pub mod Listing
pub mod Overlapping
pub mod Viewing
mod Worked
