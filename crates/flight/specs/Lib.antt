pub mod Alone
pub mod Internal
pub mod Exported
pub mod Flight
pub mod Flights
pub mod Fly
pub mod Laws
pub mod Refusals
