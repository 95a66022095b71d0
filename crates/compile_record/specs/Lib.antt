pub mod Internal
pub mod Items
pub mod Marks
pub mod Pieces
pub mod Recorded
pub mod Script
pub mod Standing
pub mod Wanted
