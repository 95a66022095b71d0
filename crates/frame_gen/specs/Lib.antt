pub mod Internal
pub mod Generated
pub mod Operations
