pub mod Right
pub mod Submitted
