pub mod Internal
pub mod Initialized
pub mod PieceStates
pub mod StateValid
