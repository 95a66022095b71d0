pub mod Internal
pub mod Holds
pub mod Parts
pub mod Worked
pub mod WorkerSteps
