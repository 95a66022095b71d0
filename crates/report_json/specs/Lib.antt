pub mod Bounds
pub mod Costs
pub mod Culls
pub mod Faults
pub mod Json
pub mod Places
pub mod Told
pub mod Verdicts
