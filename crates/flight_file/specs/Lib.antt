pub mod Internal
pub mod Files
pub mod Flights
pub mod Lines
pub mod Plans
pub mod Texts
