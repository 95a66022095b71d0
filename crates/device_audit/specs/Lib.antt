pub mod Again
pub mod Internal
pub mod TraceLines
pub mod Recordings
pub mod Runs
pub mod Trace
pub mod Verdicts
