pub mod Choice
pub mod Internal
pub mod Cost
pub mod Queues
pub mod Renamed
