pub mod Both
pub mod Scopes
