pub mod AccessKinds
pub mod Internal
pub mod Effects
pub mod ValidView
pub mod Views
