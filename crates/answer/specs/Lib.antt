pub mod Internal
pub mod Answers
pub mod AtRest
pub mod Forms
pub mod Inputs
pub mod Plain
pub mod Statuses
