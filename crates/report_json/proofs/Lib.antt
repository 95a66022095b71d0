pub mod Entries
pub mod PlaceEntries
