pub mod Apart
pub mod Checked
pub mod Internal
pub mod Hazards
pub mod Sound
pub mod Verdicts
