pub mod Channels
pub mod Internal
pub mod Joined
pub mod Laid
pub mod Laws
pub mod Programs
pub mod Tables
