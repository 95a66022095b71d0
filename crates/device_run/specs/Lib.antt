pub mod EveryRun
pub mod FrameRuns
pub mod Keepers
pub mod Runs
