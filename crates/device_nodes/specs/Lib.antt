pub mod Internal
pub mod Controls
