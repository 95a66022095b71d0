pub mod Internal
pub mod Edits
pub mod Own
pub mod Standing
pub mod Tight
pub mod Tightened
