pub mod Advancing
pub mod Calming
pub mod Drawing
pub mod Driving
pub mod Following
pub mod OneRun
pub mod Queues
pub mod Ranges
